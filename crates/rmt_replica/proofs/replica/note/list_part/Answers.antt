use Rattle.std.proofs.Common.{◌≡◌, ◌++◌, ◌∷◌, [], List, inl, inr, refl, sym, subst, arith}
use Rattle.std.proofs.lemmas.Grind.{common_steps}
use Rattle.rmt_names.specs.Names.{Name}
use Rattle.rmt_model.specs.Words.{Has}
use Rattle.rmt_replica.proofs.replica.note.list_part.Goals as goal

pub returns-then-is_listed : goal.returns-then-is_listed
returns-then-is_listed c = inl (subst (λ (xs : List Name). Has xs c.args.part) c.as_slice.ensures.value (c.is_listed.ensures.0 c.if-is_listed.true), refl)

pub returns : goal.returns
returns c =
    let pushed : c.push.new.self.items ≡ c.args.noted.now.items ++ c.args.part ∷ [] = grind (arith, common_steps) in
    inr ((λ h. let t = c.is_listed.ensures.1 (subst (λ (xs : List Name). Has xs c.args.part) (sym c.as_slice.ensures.value) h) in let f = c.if-is_listed.false in absurd (cc)), pushed)
