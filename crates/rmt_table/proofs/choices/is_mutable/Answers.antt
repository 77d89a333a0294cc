use Rattle.std.proofs.Common.{◌≡◌, ℕ, refl, sym, subst, ◌∙◌}
use Rattle.std.specs.declared.option.Option.{Option}
use Rattle.std.specs.declared.option.Option.TheVariants.{Some, None}
use Rattle.rmt_history.specs.Mutations.{HasOrder}
use Rattle.rmt_history.proofs.NumberLemmas.{log-order}
use Rattle.rmt_table.proofs.ChoiceLemmas.{mutable, mutable-found, mutable-above, alone-live, nowhere-mutable, not-yes}
use Rattle.rmt_table.proofs.choices.is_mutable.Goals as goal

pub number_in-requires : goal.number_in-requires
number_in-requires c =
    subst HasOrder (sym c.value.ensures) (log-order c.args.copy.now.schema c.args.copy.now.log c.args.upto c.in-Some.token.now.value c.len-len.ensures.lawful c.in-Some.ensures.entry)

pub returns-in_default : goal.returns-in_default
returns-in_default c = (λ t. absurd (not-yes _ refl t), λ m. absurd (nowhere-mutable c.args.copy.now.log c.args.old.now c.args.upto c.in_default.ensures.entry m))

pub returns-in_default-number_in : goal.returns-in_default-number_in
returns-in_default-number_in c = (
  λ t. absurd (not-yes _ refl t),
  λ m.
      let f : ◌≡◌ {A = Option ℕ} None (Some m.number) =
      c.in_default-number_in.ensures
      ∙ mutable-found c.args.copy.now.schema c.args.copy.now.log c.args.old.now c.args.upto c.in-Some.token.now.value c.value.result.now c.partition.result c.len-len.ensures.lawful c.in-Some.ensures.entry c.value.ensures c.partition.ensures m in
      absurd (cc),
)

pub returns-then-neighbours : goal.returns-then-neighbours
returns-then-neighbours c = (
  λ h.
      mutable c.args.copy.now.log c.args.old.now c.args.upto c.in-Some.token.now.value c.value.result.now c.partition.result c.in-Some-number_in.number c.ver.result (c.if-neighbours.ensures.0 refl)
      c.in-Some.ensures.entry c.value.ensures c.in-Some-number_in.ensures c.partition.ensures c.ver.ensures h,
  λ m.
      mutable-above c.args.copy.now.log c.args.old.now c.args.upto c.in-Some-number_in.number c.ver.result _ m
      (mutable-found c.args.copy.now.schema c.args.copy.now.log c.args.old.now c.args.upto c.in-Some.token.now.value c.value.result.now c.partition.result c.len-len.ensures.lawful c.in-Some.ensures.entry c.value.ensures c.partition.ensures m)
      c.in-Some-number_in.ensures c.ver.ensures,
)

pub returns-else-neighbours : goal.returns-else-neighbours
returns-else-neighbours c = (λ h. absurd (not-yes _ c.if-neighbours.false h), λ m. c.neighbours.ensures.1 (alone-live c.args.copy.now.log c.args.old.now m.is_live))
