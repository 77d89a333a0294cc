-- crates/rmt_play/proofs/refusing/own_refusal/Answers.antt
use Rattle.std.proofs.Common.{subst, sym}
use Rattle.std.proofs.lemmas.Result.{IfOk-weaker}
use Rattle.std.specs.Prelude.{IfOk}
use Rattle.rmt_statements.specs.declared.act.Act.{Act}
use Rattle.rmt_play.specs.PlayerSteps.{IsOwnRefusal}
use Rattle.rmt_play.proofs.refusing.own_refusal.Goals as goal

pub returns-in-Select : goal.returns-in-Select
returns-in-Select c =
    subst (λ (a : Act). IfOk c.select_refusal.result (IsOwnRefusal c.args.schema.now a)) (sym c.in-Select.is)
    (IfOk-weaker c.select_refusal.result _ _ (λ why f. f c.in-Select.table) c.select_refusal.ensures)
