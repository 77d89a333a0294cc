use Rattle.std.proofs.Common.{◌≡◌, ◌<◌, ℕ, List, length, arith, sym, subst, ◌∙◌}
use Rattle.std.proofs.lemmas.Bool.Decides.{nat_tests}
use Rattle.rmt_table_model.specs.Held.{Held}
use Rattle.rmt_workers.specs.Settled.{EachFrom, IsSettled}
use Rattle.rmt_workers.proofs.CloseLemmas.{all-settled}
use Rattle.rmt_workers.proofs.crew.close.settled_trees.Goals as goal

pub returns-clause-settled : goal.returns-clause-settled
returns-clause-settled g c =
    let s = c.in_ok-settle_all.ensures in
    let n : length c.settle_all.new.tables ≡ length c.args.pass.now.tables = (let a = c.insist.ensures in let b = c.len.ensures in let d = c.len-2.ensures.len in let e = s.sees.count_is in let f : c.len.result ≡ c.len-2.result = grind (arith, nat_tests) in omega (arith, b, d, e, f)) in
    subst (λ (ts : List Held). EachFrom (IsSettled g.N.Naming.tables g.N.Naming.replicas g.N.Naming.offered c.settle_all.new.pass) 0 ts) (sym c.into_tables.ensures)
    (all-settled g.N.Naming.tables g.N.Naming.replicas g.N.Naming.offered c.settle_all.new.pass c.settle_all.new.tables (λ k l. s.settled k (omega (arith, l, n))))
