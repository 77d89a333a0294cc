use Rattle.std.proofs.Common.{sym, subst}
use Rattle.rmt_entries.specs.declared.entry.Entry.TheVariants.{Get}
use Rattle.rmt_model.specs.Words.{Has}
use Rattle.rmt_model.proofs.Lists.{Each-at}
use Rattle.rmt_model.proofs.Drops.{entry-has}
use Rattle.rmt_events.specs.Whole.{Follows}
use Rattle.rmt_events_tests.proofs.excluded.a_get_has_its_block.Goals as goal

pub returns : goal.returns
returns c = λ s i p n source need digest q none w.
    let r = (w.committed i p n source need digest q).1 in
    let f = Each-at (Follows s) s.replicas r.replica w.follow r.is_in in
    none r.replica r.is_in (Follows.sources f p n need digest (subst (λ k. Has s.table.log (Get p n digest k need)) (sym r.numbered) (entry-has s.table.log i (Get p n digest source need) q)))
