use Rattle.std.proofs.Common.{◌≡◌, ◌≤◌, ◌∙◌, List, length, ap, sym, subst}
use Rattle.std.proofs.lemmas.Result.{err_from_is_err_and}
use Rattle.rmt_names.specs.Names.{Name}
use Rattle.rmt_model.specs.Words.{Has}
use Rattle.rmt_events.specs.TableRefusals.{NotMerged}
use Rattle.rmt_table.specs.Causes.{merge_cause}
use Rattle.rmt_table.specs.TableTrees.{table_at}
use Rattle.rmt_statement_model.specs.Optimizes.{live_of}
use Rattle.rmt_shared.specs.ClientCalls.{HasTable}
use Rattle.rmt_pass.proofs.KnownLemmas.{if-some}
use Rattle.rmt_pass.proofs.MergeLemmas.{are-several, live-mergeable}
use Rattle.rmt_pass.proofs.pass.optimize.append_all.Goals as goal

pub append_merge-requires-clause-neighbours : goal.append_merge-requires-clause-neighbours
append_merge-requires-clause-neighbours g c =
    let are : c.as_slice-2.result.now ≡ live_of c.args.copy.now.log c.args.partition = c.as_slice-2.ensures ∙ c.in_ok-sources.ensures in
    live-mergeable c.args.copy.now.schema c.args.copy.now.log c.args.partition c.as_slice-2.result.now are c.len-entries.ensures.lawful
    (are-several c.as_slice-2.result.now c.requires.some.0 (subst (λ (xs : List Name). Has xs c.requires.some.0) (sym are) c.requires.some.1) (λ e. c.if-len-eq1.false (c.len.ensures ∙ (ap length (sym c.as_slice-2.ensures) ∙ e))))

pub returns-in_err-append_merge-clause-several : goal.returns-in_err-append_merge-clause-several
returns-in_err-append_merge-clause-several g c =
    let p = err_from_is_err_and c.from_residual-in_err-append_merge.result c.from_residual-in_err-append_merge.ensures.1 in
    let several : 2 ≤ length (live_of c.args.copy.now.log c.args.partition) =
    are-several (live_of c.args.copy.now.log c.args.partition) c.requires.some.0 c.requires.some.1 (λ e. c.if-len-eq1.false (c.len.ensures ∙ (ap length c.in_ok-sources.ensures ∙ e))) in
    rw (p.1, p.2) (if-some (merge_cause c.in_err-append_merge.field-0.0) _ _ (λ why h. several) c.in_err-append_merge.ensures.refused)

pub returns-in_err-append_merge-clause-refused : goal.returns-in_err-append_merge-clause-refused
returns-in_err-append_merge-clause-refused g c =
    let p = err_from_is_err_and c.from_residual-in_err-append_merge.result c.from_residual-in_err-append_merge.ensures.1 in
    let are : c.as_slice-2.result.now ≡ live_of c.args.copy.now.log c.args.partition = c.as_slice-2.ensures ∙ c.in_ok-sources.ensures in
    rw (p.1, p.2) (if-some (merge_cause c.in_err-append_merge.field-0.0) _ _
    (λ why h. subst (λ (xs : List Name). HasTable c.args.tables.now c.args.table (λ t. NotMerged (table_at t) (length c.args.copy.now.log) xs why)) are h) c.in_err-append_merge.ensures.refused)
