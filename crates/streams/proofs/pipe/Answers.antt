-- `pipe` meets its contract.
use Rattle.std.proofs.Common.{◌≡◌, ℕ, min, List, length, take, refl, rules}
use Rattle.std.proofs.lemmas.List.{take_min}
use Rattle.std.proofs.lemmas.Result.{on_ok_weaker}
use Rattle.streams.specs.Pipe.{Replies, Pipes}
use Rattle.streams.proofs.pipe.Goals as goal

-- no more than all of `out` is there to be written
capped : (n m : ℕ) (out : List ℕ) → m ≡ min n 4096 → length out ≡ 4096 → take m out ≡ take n out
capped n m out e l =
    let t : take (min n (length out)) out ≡ take n out = take_min n out in
    rw e (rw l at t)

pub returns : goal.returns
returns g c =
    on_ok_weaker
    {Q = Pipes (Replies g.F.FnOnce c.args.reply) (g.R.Read.remaining c.args.input.now) (g.R.Read.remaining c.read_full-size.new.input) (g.W.Write.contents c.args.output.now) (g.W.Write.contents c.write_all.new.self)}
    _
    (λ w. record {
      file = _;
      number = _;
      out = c.reply-n.new.arg3;
      short = search rules;
      taken = c.read_full-size.ensures.taken;
      answered = record { shown = _; shows = refl; lent = _; blank = refl; left = _; leaves = refl; gives = c.reply-n.ensures };
      written = rw (capped c.reply-n.result c.min.result c.reply-n.new.arg3 (search rules) (search rules)) at w;
    }) c.write_all.ensures.bytes
