use Rattle.std.proofs.Common.{◌∙◌, not, List, sym, ap, subst}
use Rattle.std.specs.List.{list_any}
use Rattle.rmt_names.specs.Names.{Name}
use Rattle.rmt_model.specs.Words.{Each}
use Rattle.rmt_model.specs.Live.{TakesAway}
use Rattle.rmt_partset.specs.ActiveParts.{part_names}
use Rattle.rmt_readings.specs.Checks.{takes}
use Rattle.rmt_readings.proofs.DropTests.{none-taken, one-taken}
use Rattle.rmt_readings.proofs.CheckLemmas.{entry-unmade, maker-checked}
use Rattle.rmt_readings.proofs.checked.is_checked_entry.Goals as goal

pub returns-in_default-clause-yes : goal.returns-in_default-clause-yes
returns-in_default-clause-yes c = λ t.
    entry-unmade c.args.copy.now.log (part_names c.args.replica.now.parts) c.args.entry.now (sym c.in_default.ensures)
    (subst (λ (names : List Name). Each (λ a. TakesAway c.args.entry.now a → ⊥) names) c.requires.names
    (none-taken c.args.entry.now _ (sym c.leaves_all.ensures ∙ t)))

pub returns-in_default-clause-no : goal.returns-in_default-clause-no
returns-in_default-clause-no c = λ f k.
    one-taken c.args.entry.now (part_names c.args.replica.now.parts) (ap (λ (names : List Name). not (list_any (takes c.args.entry.now) names)) (sym c.requires.names) ∙ (sym c.leaves_all.ensures ∙ f)) k.kept

pub returns-clause-yes : goal.returns-clause-yes
returns-clause-yes c = λ t. maker-checked c.args.copy.now.log (part_names c.args.replica.now.parts) c.args.entry.now c.in-Some.name (sym c.in-Some.ensures) (c.is_answered.ensures.yes t)
