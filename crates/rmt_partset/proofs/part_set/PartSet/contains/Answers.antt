use Rattle.std.proofs.Common.{◌≡◌, ap, sym, subst, ◌∙◌}
use Rattle.std.specs.Arc.{arc_value}
use Rattle.rmt_names.specs.Names.{Name, Covers}
use Rattle.rmt_model.specs.Words.{Has}
use Rattle.rmt_model.proofs.LiveLaws.{Covers-refl}
use Rattle.rmt_nameset.specs.NameSets.{AreApart}
use Rattle.rmt_part.specs.Lineages.{PartValue}
use Rattle.rmt_partset.specs.ActiveParts.{ActiveParts, part_names}
use Rattle.rmt_partset.proofs.PartLists.{named-so}
use Rattle.rmt_partset.proofs.part_set.PartSet.contains.Goals as goal

pub returns-in-Some : goal.returns-in-Some
returns-in-Some c =
    let name = c.name.ensures.name ∙ ap (λ (p : PartValue). p.name) c.deref.ensures in
    let k = named-so c.args.self.now.parts c.args.name.now (arc_value c.in-Some.part.now) c.covering.ensures.apart c.in-Some.ensures.found in
    (λ t. k.0 (subst (Covers c.args.name.now) name (c.covers.ensures.fact.0 t)), λ h. c.covers.ensures.fact.1 (subst (Covers c.args.name.now) (sym name) (k.1 h)))

pub returns-in-None : goal.returns-in-None
returns-in-None c = (λ t. absurd (cc), λ h. absurd (c.in-None.ensures.found c.args.name.now h (Covers-refl c.args.name.now)))
