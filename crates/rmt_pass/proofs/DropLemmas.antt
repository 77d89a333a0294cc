-- A client's own drop: what it knows once it has taken it over.
use Rattle.std.proofs.Common.{◌≡◌, ℕ, ◌+◌, ◌<◌, false, List, length, set, refl, sym, ap, subst, ◌∙◌}
use Rattle.std.specs.declared.option.Option.{Option}
use Rattle.std.specs.declared.result.Result.TheVariants.{Ok}
use Rattle.rmt_entries.specs.declared.entry.Entry.TheVariants.{DropRange}
use Rattle.rmt_model.specs.Lawful.{IsPrefix}
use Rattle.rmt_events.specs.Views.{Block, Table}
use Rattle.rmt_events.specs.TableCalls.{DropsPartition}
use Rattle.rmt_table_model.specs.Held.{Held}
use Rattle.rmt_table.specs.TableTrees.{table_at}
use Rattle.rmt_table.proofs.Appended.{clients-next}
use Rattle.rmt_statement_model.specs.TableStates.{learned}
use Rattle.rmt_statement_model.specs.Books.{all_clients}
use Rattle.rmt_statement_model.specs.ActOutcomes.{DropsOr}
use Rattle.rmt_clients.specs.Clients.{KnowsTable}
use Rattle.rmt_known.specs.KnownTables.{Known, KeepsCopy, client_of, known_state}
use Rattle.rmt_shared.specs.SharedTables.{ChangesTable}
use Rattle.rmt_shared.specs.ClientCalls.{HasTable}
use Rattle.rmt_pass.specs.Passes.{PassView, SeesAs, IsCurrent, TakesStep, TakesOver, known_in, known_at, client_at, logs_in}
use Rattle.rmt_pass.proofs.OwnLemmas.{knowing, before-there, after-there, left-there, left-in, entry-more, one-more, learned-clients, learned-keeps, learned-sees, learned-schema, learned-fetching, learned-known}
use Rattle.rmt_pass.proofs.ChangeSteps.{drops}

module _ (p : PassView) (k : ℕ) (old new : List Held) (there : k < length old) (now : IsCurrent p k old) (n : ℕ) (o : Option ℕ) (c : ChangesTable old k (λ t u. DropsPartition (table_at t) o n (table_at u)) new) where
  found : c.table ≡ now.table
  found = before-there old k (λ t u. DropsPartition (table_at t) o n (table_at u)) new c now.table there now.is

  sees : SeesAs (client_at p k) c.table
  sees = subst (λ (h : Held). SeesAs (client_at p k) h) (sym found) now.now

  -- the log goes on from the copy by the drop
  pub drop-goes-on : HasTable new k (λ h. IsPrefix (known_at p k).log h.log)
  drop-goes-on = record {
    table = c.after;
    is = left-there old k (λ t u. DropsPartition (table_at t) o n (table_at u)) new c there;
    fact = entry-more (DropRange o n) (known_at p k).log c.table.log c.after.log (ap (λ (x : Table). x.log) c.change.change) sees.log;
  }

  module _ (here : k < length p.tables) (known : List Known) (h : HasTable new k (λ h. TakesOver p.tables k h known)) (r place : ℕ) (n1 n2 : Known) (at : n1 ≡ known_in known k) (l : KnowsTable (client_of n2) (record (known_state n1) { known = learned (known_state n1).known r place })) (keep : KeepsCopy n1 n2) where
    left : h.table ≡ c.after
    left = after-there old k (λ t u. DropsPartition (table_at t) o n (table_at u)) new c h.table there h.is

    schema : (known_at p k).schema ≡ h.table.schema
    schema = sees.schema ∙ (ap (λ (x : Table). x.schema) (sym c.change.change) ∙ ap (λ (x : Held). x.schema) (sym left))

    now-sees : SeesAs (client_of (known_in (set known k n2) k)) h.table
    now-sees = learned-sees p k here h.table schema known h.fact r place n1 n2 at l keep

    pub drop-done : (Offered : ℕ → Block → Type 0) → place ≡ length now.table.log → TakesStep Offered p k (DropsOr r o (Ok n)) (knowing p (set known k n2) false)
    drop-done Offered e = record {
      steps = drops (Offered k) (client_at p k) (client_of (known_in (set known k n2) k)) c.table c.after r n o sees c.change (record {
        schema = learned-schema p k here h.table schema known h.fact r place n1 n2 at l keep;
        sees = subst (λ (x : Held). SeesAs (client_of (known_in (set known k n2) k)) x) left now-sees;
        fetching = learned-fetching p k here h.table schema known h.fact r place n1 n2 at l keep;
        known = λ j i. learned-known p k here h.table schema known h.fact r place n1 n2 at l keep j i ∙ ap (λ (x : ℕ). learned (client_at p k).known r x j i) (e ∙ ap (λ (x : Held). length x.log) (sym found));
      });
      keeps = learned-keeps p k here h.table schema known h.fact r place n1 n2 at l keep false;
      goes = refl;
    }

    pub drop-now : IsCurrent (knowing p (set known k n2) false) k new
    drop-now = record { there = left-in old k (λ t u. DropsPartition (table_at t) o n (table_at u)) new c there; table = h.table; is = h.is; now = now-sees; goes = refl }

    pub drop-counted : all_clients (logs_in (set known k n2)) ≡ all_clients (logs_in p.tables) + 1
    drop-counted =
        learned-clients p k here h.table schema known h.fact r place n1 n2 at l keep
        ∙ one-more p k h.table known (DropRange o n) c.table.log here h.fact (ap (λ (x : Held). x.log) left ∙ ap (λ (x : Table). x.log) c.change.change) sees.log (clients-next (DropRange o n) c.table.log)
