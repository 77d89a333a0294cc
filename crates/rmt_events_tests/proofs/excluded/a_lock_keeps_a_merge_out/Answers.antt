use Rattle.std.proofs.Common.{sym, subst, ◌∙◌, ◌≤◌}
use Rattle.rmt_names.specs.Names.{Spans}
use Rattle.rmt_model.proofs.Lists.{Each-at}
use Rattle.rmt_events.specs.Views.{Lock}
use Rattle.rmt_events_tests.proofs.excluded.a_lock_keeps_a_merge_out.Goals as goal

pub returns : goal.returns
returns c = λ old new a sources count p n l h k.
    Each-at (λ (z : Lock). Spans a z.partition z.number → ⊥) old.locks l.lock k.free l.is_in
    (record { partition = h.partition ∙ sym l.partition; low = subst (λ m. a.min ≤ m) (sym l.number) h.low; high = subst (λ m. m ≤ a.max) (sym l.number) h.high })
