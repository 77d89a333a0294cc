-- What a rest leaves as it is of what is read of a table.
use Rattle.std.proofs.Common.{◌≡◌, ◌∙◌, inl, inr, ℕ, Bool, true, List, ap, sym, subst}
use Rattle.rmt_values.specs.declared.checked_query.CheckedQuery.{CheckedQuery}
use Rattle.rmt_model.specs.Content.{Row}
use Rattle.rmt_query.specs.Answers.{answer_of}
use Rattle.rmt_events.specs.Clusters.{rows_at}
use Rattle.rmt_statement_model.specs.TableStates.{TableState, plain_rows}
use Rattle.rmt_statement_model.specs.Reads.{KnowsAll}
use Rattle.rmt_statement_model.specs.Rests.{Rests}
use Rattle.rmt_statement_model.proofs.WorkerEntries.{rows-stay}
use Rattle.rmt_clients.specs.Clients.{ClientsMarked}
use Rattle.rmt_clients.proofs.ClientReadings.{marked-all, marked-gained}

-- what a query answers over its plain rows
pub rested-answer : (t u : TableState) (query : CheckedQuery) → Rests true t u → answer_of u.schema query (plain_rows u) ≡ answer_of t.schema query (plain_rows t)
rested-answer t u query (inl e) = ap (λ (x : TableState). answer_of x.schema query (plain_rows x)) e
rested-answer t u query (inr i) =
    ap (λ (x : TableState). answer_of x.schema query (plain_rows x)) i.works.change
    ∙ ap (λ (rows : List Row). answer_of t.schema query rows) (rows-stay i.works.gained t.log (rows_at t.blocks) i.works.workers)

-- where all was known at a replica, each client's entry is
pub rested-marked : (t u : TableState) (r : ℕ) → Rests true t u → KnowsAll t r → ClientsMarked u.log (u.known r)
rested-marked t u r (inl e) k = subst (λ (x : TableState). ClientsMarked x.log (x.known r)) (sym e) (marked-all t.log (t.known r) k)
rested-marked t u r (inr i) k =
    subst (λ (x : TableState). ClientsMarked x.log (x.known r)) (sym i.works.change)
    (marked-gained i.works.gained t.log (t.known r) i.works.workers (marked-all t.log (t.known r) k))
