use Rattle.std.proofs.Common.{◌≡◌, subst}
use Rattle.std.specs.Prelude.{IfOk}
use Rattle.rmt_values.specs.Rows.{Shape}
use Rattle.rmt_changes.specs.Changes.{entries_of}
use Rattle.rmt_query.specs.Answers.{answer_of}
use Rattle.rmt_query.specs.ReadRows.{rows_read}
use Rattle.rmt_acts.proofs.ReadActs.{answers-all}
use Rattle.rmt_acts.proofs.reading.answer_up_to_date.Goals as goal

pub returns : goal.returns
returns c =
    let r = c.replicas_are_numbered.ensures c.args.replica c.requires.here in
    answers-all c.answer.result (λ tuples. tuples.items) c.args.cluster.now c.args.replica c.in_ok-parts.parts (entries_of c.all_mutations-pending.result.now) c.copy.result.now.log c.args.query.now
    c.drained_replicas_agree.ensures.whole r c.all_mutations-pending.ensures.entries c.copy.ensures.log c.in_ok-parts.ensures.reading
    (subst (λ (s : Shape). IfOk c.answer.result (λ tuples. tuples.items ≡ answer_of s c.args.query.now (rows_read (entries_of c.all_mutations-pending.result.now) c.in_ok-parts.parts)))
    c.schema_of.ensures c.answer.ensures.ok)
