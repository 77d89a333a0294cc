-- ALTER .. UPDATE and ALTER .. DELETE: what the event replies, and what the cluster shows then.
use Rattle.std.proofs.Common.{◌≡◌, ℕ, inl, inr, List, ◌∷◌, refl, sym, ap, subst, ◌∙◌}
use Rattle.std.specs.declared.option.Option.{Option}
use Rattle.rmt_values.specs.declared.checked_mutation.CheckedMutation.{CheckedMutation}
use Rattle.rmt_values.specs.declared.limit.Limit.{Limit}
use Rattle.rmt_entries.specs.declared.entry.Entry.{Entry}
use Rattle.rmt_entries.specs.declared.entry.Entry.TheVariants.{Mutation}
use Rattle.rmt_model.specs.Lawful.{mutation_count}
use Rattle.rmt_model.specs.BlockNumbers.{next_numbers_after}
use Rattle.rmt_model.specs.EntryLimits.{mutation_limit}
use Rattle.rmt_events.specs.Views.{Table}
use Rattle.rmt_events.specs.Clusters.{Cluster}
use Rattle.rmt_events.specs.Whole.{IsWhole}
use Rattle.rmt_events.specs.TableRefusals.{NoMutation}
use Rattle.rmt_events.specs.Steps.{Does, Step}
use Rattle.rmt_reply.specs.declared.refusal.Refusal.TheVariants.{LimitReached}
use Rattle.rmt_statement_model.specs.TableStates.{TableState}
use Rattle.rmt_statement_model.specs.Mutations.{with_mutation, Mutates, LacksMutation}
use Rattle.rmt_statement_model.specs.Shows.{Shows, Leads}
use Rattle.rmt_statement_model.proofs.ShownSteps.{shows-quiet}
use Rattle.rmt_statement_model.proofs.GainedEntries.{gains-stored, gained-shows}
use Rattle.rmt_events.specs.declared.event.Event.TheVariants as ev
use Rattle.rmt_events.specs.declared.reply.Reply.{Reply}
use Rattle.rmt_events.specs.declared.reply.Reply.TheVariants as rp
use Rattle.rmt_events.specs.declared.step_refused.StepRefused.{StepRefused}
use Rattle.rmt_events.specs.declared.step_refused.StepRefused.TheVariants as rf

-- the mutation is made, or passes a limit
abbrev pub IsMutationReply : Reply → Type 0
IsMutationReply (rp.Entry i) = Unit {0}
IsMutationReply (rp.Refused (rf.LimitReached limit value)) = Unit {0}
IsMutationReply reply = ⊥

-- a mutation is refused for a limit alone
refused-mutation : (s : Cluster) (why : StepRefused) → NoMutation s.table why → IsMutationReply (rp.Refused why)
refused-mutation s (rf.LimitReached limit value) c = tt
refused-mutation s why c = absurd c

-- nothing else is answered
pub mutation-reply : (s u : Cluster) (command : CheckedMutation) (reply : Reply) → Step s (ev.CreateMutation command) reply u → IsMutationReply reply
mutation-reply s u command reply k = go k.does
  where
    go : Does s (ev.CreateMutation command) reply k.after → IsMutationReply reply
    go (inl d) = subst (λ (y : Reply). IsMutationReply y) (sym d.answer) tt
    go (inr d) = subst (λ (y : Reply). IsMutationReply y) (sym d.answer) (refused-mutation s d.why d.cause)

-- what the state says of the limit of one more mutation is what the table says
limit-shown : (s : Cluster) (t : TableState) → Shows s t → mutation_limit t.next t.log ≡ mutation_limit s.table.next s.table.log
limit-shown s t h = ap (λ (x : List (Option ℕ × ℕ)). mutation_limit x t.log) h.table.next ∙ ap (λ (l : List Entry). mutation_limit s.table.next l) h.table.log

-- the mutation is made, with the table's next id and numbers
pub mutation-row : (s u : Cluster) (command : CheckedMutation) (place : ℕ) → IsWhole s → Step s (ev.CreateMutation command) (rp.Entry place) u → (t : TableState) → Shows s t → Leads u (λ v. Mutates t command (mutation_count s.table.log) v)
mutation-row s u command place w k t h = go k.does
  where
    go : Does s (ev.CreateMutation command) (rp.Entry place) k.after → Leads u (λ v. Mutates t command (mutation_count s.table.log) v)
    go (inr d) = let e = d.answer in absurd (cc)
    go (inl d) =
        let q : k.after.table ≡ d.at.new = ap (λ (x : Cluster). x.table) d.at.change in
        record {
          state = with_mutation t command;
          holds = record {
            room = limit-shown s t h ∙ d.at.does.within;
            numbered = ap (λ (l : List Entry). mutation_count l) (sym h.table.log);
            change = refl;
          };
          shows = gained-shows s u (ev.CreateMutation command) (rp.Entry place) (Mutation (mutation_count t.log) t.next command) t (next_numbers_after t.next) t.quorum w tt k
              (gains-stored s u (ev.CreateMutation command) (rp.Entry place) (Mutation (mutation_count t.log) t.next command) k
              (ap (λ (x : Table). x.schema) q ∙ ap (λ (x : Table). x.schema) d.at.does.change)
              (ap (λ (x : Table). x.log) q
              ∙ (ap (λ (x : Table). x.log) d.at.does.change
              ∙ (ap (λ (l : List Entry). Mutation (mutation_count l) s.table.next command ∷ s.table.log) (sym h.table.log) ∙ ap (λ (x : List (Option ℕ × ℕ)). Mutation (mutation_count t.log) x command ∷ s.table.log) (sym h.table.next))))
              (ap (λ (x : Cluster). x.events) d.at.change) (λ xs i. refl))
              tt
              (ap (λ (x : List (Option ℕ × ℕ)). next_numbers_after x) h.table.next ∙ sym (ap (λ (x : Cluster). x.table.next) k.stored ∙ (ap (λ (x : Table). x.next) q ∙ ap (λ (x : Table). x.next) d.at.does.change)))
              (h.table.quorum ∙ sym (ap (λ (x : Cluster). x.table.quorum) k.stored ∙ (ap (λ (x : Table). x.quorum) q ∙ ap (λ (x : Table). x.quorum) d.at.does.change)))
              h;
        }

-- one more mutation would pass the limit, and nothing changes
pub mutation-refused : (s u : Cluster) (command : CheckedMutation) (limit : Limit) (value : ℕ) → IsWhole s → Step s (ev.CreateMutation command) (rp.Refused (rf.LimitReached limit value)) u → (t : TableState) → Shows s t → Leads u (λ v. LacksMutation t (LimitReached limit value) v)
mutation-refused s u command limit value w k t h = go k.does
  where
    go : Does s (ev.CreateMutation command) (rp.Refused (rf.LimitReached limit value)) k.after → Leads u (λ v. LacksMutation t (LimitReached limit value) v)
    go (inl d) = let e = d.answer in absurd (cc)
    go (inr d) =
        let e : d.why ≡ rf.LimitReached limit value = let q = d.answer in cc in
        let c = subst (λ (y : StepRefused). NoMutation s.table y) e d.cause in
        record {
          state = t;
          holds = record { limit = limit; value = value; reached = limit-shown s t h ∙ c; reply = refl; unchanged = refl };
          shows = shows-quiet s u (ev.CreateMutation command) (rp.Refused (rf.LimitReached limit value)) t w tt k (ap (λ (x : Cluster). x.table) d.unchanged) (ap (λ (x : Cluster). x.events) d.unchanged) (λ xs i. refl) h;
        }
