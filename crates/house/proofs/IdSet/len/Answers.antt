-- `house::IdSet::len` meets its contract: the size of a set is the sum of its words' ones. Eight numbers of 32 bits fit.
use Rattle.std.proofs.Common.{rules, tests, arith}
use Rattle.std.specs.Int.Count.{ones}
use Rattle.std.proofs.lemmas.Iterator.{YieldsList-from_slice, YieldsList-from_map}
use Rattle.std.proofs.lemmas.Iterator.Adapters.{fits_from_length, at_most_from_yields_List}
use Rattle.std.proofs.lemmas.Iterator.Consumers.{sum_by_from_yields_List}
use Rattle.house.proofs.SetLaws.{size_sum}
use Rattle.house.proofs.IdSet.len.Goals as goal

pub sum-requires-clause-fits : goal.sum-requires-clause-fits
sum-requires-clause-fits c =
    fits_from_length _ _ 8 _ (at_most_from_yields_List (YieldsList-from_slice c.args.self.now.words cc) (search rules))
    c.map.ensures.closure (omega arith) (λ x r q k. search (rules, tests))

pub returns : goal.returns
returns c =
    omega (
      arith,
      sum_by_from_yields_List ones c.args.self.now.words c.map.result _ c.sum.ensures.ran
          (YieldsList-from_map _ ones (YieldsList-from_slice c.args.self.now.words cc) c.map.ensures.closure (λ x r q k. search (rules, tests))),
      size_sum c.args.self.now.words,
    )
