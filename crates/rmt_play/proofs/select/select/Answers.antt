use Rattle.std.proofs.Common.{◌≡◌, ◌∙◌, subst}
use Rattle.rmt_values.specs.Rows.{Shape}
use Rattle.rmt_partset.specs.Snapshots.{data_in, all_rows}
use Rattle.rmt_query.specs.Answers.{answer_of}
use Rattle.rmt_play.specs.QueryAnswers.{Selects}
use Rattle.rmt_statement_model.specs.ActOutcomes.{ReadsParts}
use Rattle.rmt_play.proofs.SightLemmas.{brings-on}
use Rattle.rmt_play.proofs.select.select.Goals as goal

pub returns-clause-selects : goal.returns-clause-selects
returns-clause-selects g c =
    let s = g.E.Acting.seen c.args.engine.now in
    let same = subst (λ (x : Shape). c.in_ok-selection.selection.rows ≡ answer_of x c.args.query.now (all_rows (data_in c.in_ok-snapshot.snapshot))) (c.schema.ensures ∙ c.read_parts.ensures.keeps.shape) c.in_ok-selection.ensures.rows in
    brings-on s (g.E.Acting.seen c.read_parts.new.self) (ReadsParts c.args.replica c.in_ok-snapshot.snapshot) (Selects s.shape c.args.replica c.args.query.now c.in_ok-selection.selection.parts c.in_ok-selection.selection.rows)
    (λ t v known shown r. record { parts = c.in_ok-snapshot.snapshot; reads = r; named = c.in_ok-selection.ensures.parts; answered = same })
    c.in_ok-snapshot.ensures.reads
