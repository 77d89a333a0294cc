use Rattle.std.proofs.Common.{◌∙◌, ◌∷◌, [], ◌++◌, ℕ, Bool, List, ap, arith, refl, subst}
use Rattle.std.specs.Prelude.{length}
use Rattle.std.specs.Arc.{arc_value}
use Rattle.rmt_values.specs.Rows.{Shape}
use Rattle.rmt_known.specs.KnownTables.{Known, new_known}
use Rattle.rmt_state.specs.NewStates.{IsNewState}
use Rattle.rmt_play.proofs.threaded.making.with_table.Goals as goal

pub returns : goal.returns
returns c = record {
  state = c.in_ok-state.state;
  is_new = subst (λ (l : List Bool). IsNewState (arc_value c.args.schema) l c.in_ok-state.state) c.deref.ensures.value c.in_ok-state.ensures;
  states = c.in_ok-push.ensures.items;
  known = c.in_ok-push-2.ensures.items ∙ ap (λ (k : Known). c.args.carried.known.items ++ k ∷ []) (c.in_ok-own.ensures ∙ (ap (λ (x : Shape). new_known x c.len.result) c.in_ok-copy.ensures ∙ ap (λ (n : ℕ). new_known (arc_value c.args.schema) n) (let a = c.len.ensures in let b = c.deref.ensures.len in let d = ap length c.deref.ensures.value in omega (arith, a, b, d))));
  up = refl;
}
