-- A client's reads at a replica, from what the types of both keep.
use Rattle.std.proofs.Common.{◌≡◌, ℕ, ◌<◌, ◌≤◌, List, length, set, get_or, refl, sym, ap, subst, arith, ◌∙◌}
use Rattle.std.specs.List.{All}
use Rattle.std.specs.Prelude.{IfOk, IfSome, MatchOption}
use Rattle.std.specs.declared.option.Option.{Option}
use Rattle.std.specs.declared.option.Option.TheVariants.{Some, None}
use Rattle.std.specs.declared.result.Result.{Result}
use Rattle.std.specs.declared.result.Result.TheVariants.{Ok, Err}
use Rattle.std.proofs.lemmas.List.Elements.{All-filter}
use Rattle.rmt_values.specs.Rows.{Shape}
use Rattle.rmt_names.specs.Names.{Name}
use Rattle.rmt_model.specs.EntryLimits.{client_count}
use Rattle.rmt_history.specs.Copies.{History}
use Rattle.rmt_format.specs.PartBytes.{HasPartBytes}
use Rattle.rmt_events.specs.Views.{Block}
use Rattle.rmt_partset.specs.Snapshots.{NamedData, names_in}
use Rattle.rmt_table_model.specs.Held.{Held}
use Rattle.rmt_replica.specs.Replicas.{ReplicaView}
use Rattle.rmt_statement_model.specs.Books.{all_clients}
use Rattle.rmt_statement_model.specs.TableStates.{shown_at}
use Rattle.rmt_statement_model.specs.ActOutcomes.{ReadsParts, ReadsQuorum}
use Rattle.rmt_statement_model.specs.Reads.{waiting_part}
use Rattle.rmt_clients.specs.Clients.{KnowsTable}
use Rattle.rmt_known.specs.KnownTables.{Known, IsReplicaIn, KeepsCopy, client_of, known_state, new_known}
use Rattle.rmt_readings.proofs.CallerLemmas.{reads-step, reads-quorum-step, lacks-quorum-step, keys, bytes}
use Rattle.rmt_readings.specs.QuorumParts.{AreInQuorum, LacksCover}
use Rattle.rmt_sequential.proofs.KeptParts.{is_kept}
use Rattle.rmt_reply.specs.declared.refusal.Refusal.{Refusal}
use Rattle.rmt_shared.specs.SharedTables.{NamedTable, named}
use Rattle.rmt_shared.specs.SharedReplicas.{IsNumber}
use Rattle.rmt_pass.specs.Passes.{PassView, IsKnownOf, IsCurrent, TakesStep, known_in, known_at, client_at, logs_in, no_schema}
use Rattle.rmt_pass.specs.ReadSteps.{IsReadableAt, ShowsAt}
use Rattle.rmt_pass.proofs.KnownLemmas.{clients-with}
use Rattle.rmt_pass.proofs.TakingLemmas.{get-same}
use Rattle.rmt_pass.proofs.OwnLemmas.{knowing, known-now, keeps-known, stays}

-- the replica of a number is one of the table's
pub replica-in : (replicas : ℕ) (named : NamedTable) (known : Known) (number : ℕ) → IsNumber number replicas → IsKnownOf replicas named known → IsReplicaIn known number
replica-in replicas named known number n of = record { first = n.first; last = subst (λ (m : ℕ). number ≤ m) (sym of.fetching) n.last }

-- ---- what is known then

module _ (p : PassView) (k : ℕ) (here : k < length p.tables) (old new : Known) (is : old ≡ get_or p.tables k old) (keep : KeepsCopy old new) where
  old-is : old ≡ known_at p k
  old-is = is ∙ get-same p.tables k old (new_known no_schema 0) here

  -- the book counts as many entries
  pub shown-counted : all_clients (logs_in (set p.tables k new)) ≡ all_clients (logs_in p.tables)
  shown-counted =
      let a = clients-with p.tables k (new_known no_schema 0) new here in
      let b : client_count new.log ≡ client_count (known_at p k).log = ap client_count (ap (λ (x : History). x.log) keep.copy ∙ ap (λ (x : Known). x.log) old-is) in
      omega (arith, a, b)

  pub shows-at : (r : ℕ) (names : List Name) → KnowsTable (client_of new) (shown_at r names (known_state old)) → ShowsAt p k r names (knowing p (set p.tables k new) p.gave_up)
  shows-at r names shows = record {
    knows = subst (λ (x : Known). KnowsTable (client_of (known_in (set p.tables k new) k)) (shown_at r names (known_state x))) old-is
        (subst (λ (x : Known). KnowsTable (client_of x) (shown_at r names (known_state old))) (sym (known-now p k here (set p.tables k new) new refl)) shows);
    keeps = keeps-known p k here (set p.tables k new) new refl p.gave_up
        (ap (λ (x : History). x.schema) keep.copy ∙ ap (λ (x : Known). x.schema) old-is)
        (keep.fetching ∙ ap (λ (x : Known). length x.fetching) old-is)
        (keep.marks ∙ ap (λ (x : Known). length x.marks) old-is);
    goes = refl;
  }

-- the client knows the table as it is still
pub shown-current : (p q : PassView) (k r : ℕ) (names : List Name) (tables : List Held) → IsCurrent p k tables → ShowsAt p k r names q → IsCurrent q k tables
shown-current p q k r names tables now s = record {
  there = now.there;
  table = now.table;
  is = now.is;
  now = record { schema = s.knows.schema ∙ now.now.schema; log = s.knows.log ∙ now.now.log; next = s.knows.next ∙ now.now.next; quorum = s.knows.quorum ∙ now.now.quorum };
  goes = s.goes ∙ now.goes;
}

-- ---- what is read

module _ (Offered : ℕ → Block → Type 0) (named : NamedTable) (p : PassView) (k : ℕ) (tables : List Held) (now : IsCurrent p k tables) (r : ReplicaView) (parts : List NamedData) (h : IsReadableAt Offered named p k r parts) where
  -- parts are read, and what they hold is known then
  pub reads-here : (q : PassView) → ShowsAt p k r.number (names_in parts) q → TakesStep Offered p k (ReadsParts r.number parts) q
  reads-here q s = record {
    steps = reads-step (Offered k) (client_at p k) r parts h.lawful h.schema h.offered h.readable (client_at q k) s.knows;
    keeps = s.keeps;
    goes = s.goes ∙ now.goes;
  }

  pub keys-here : All (λ (part : NamedData). part.rows.key ≡ named.schema.key) parts
  keys-here = subst (λ (s : Shape). All (λ (part : NamedData). part.rows.key ≡ s.key) parts) h.name (keys (Offered k) (client_at p k) r parts h.lawful h.schema h.offered h.readable)

  pub bytes-here : All (λ (part : NamedData). HasPartBytes named.schema part.rows) parts
  bytes-here = subst (λ (s : Shape). All (λ (part : NamedData). HasPartBytes s part.rows) parts) h.name (bytes (Offered k) (client_at p k) r parts h.lawful h.schema h.offered h.readable)

  -- those that are in a quorum are read
  pub reads-quorum-here : (q : PassView) (kept : List NamedData) → AreInQuorum (client_at p k).quorum parts kept → ShowsAt p k r.number (names_in kept) q → TakesStep Offered p k (ReadsQuorum r.number (Ok kept)) q
  reads-quorum-here q kept z s = record {
    steps = reads-quorum-step (Offered k) (client_at p k) r parts h.lawful h.schema h.offered h.readable (client_at q k) kept z s.knows;
    keeps = s.keeps;
    goes = s.goes ∙ now.goes;
  }

  -- or they are refused
  pub lacks-quorum-here : (why : Refusal) → LacksCover (client_at p k).quorum parts why → TakesStep Offered p k (ReadsQuorum r.number (Err why)) p
  lacks-quorum-here why z = stays Offered p k (ReadsQuorum r.number (Err why)) now.goes (lacks-quorum-step (Offered k) (client_at p k) r parts h.lawful h.schema h.offered h.readable why z)

  -- their keys and their bytes
  pub kept-keys : (kept : List NamedData) → AreInQuorum (client_at p k).quorum parts kept → All (λ (part : NamedData). part.rows.key ≡ named.schema.key) kept
  kept-keys kept z = subst (All (λ (part : NamedData). part.rows.key ≡ named.schema.key)) (sym z.left) (All-filter (is_kept (waiting_part (client_at p k).quorum)) (λ (part : NamedData). part.rows.key ≡ named.schema.key) parts keys-here)

  pub kept-bytes : (kept : List NamedData) → AreInQuorum (client_at p k).quorum parts kept → All (λ (part : NamedData). HasPartBytes named.schema part.rows) kept
  kept-bytes kept z = subst (All (λ (part : NamedData). HasPartBytes named.schema part.rows)) (sym z.left) (All-filter (is_kept (waiting_part (client_at p k).quorum)) (λ (part : NamedData). HasPartBytes named.schema part.rows) parts bytes-here)

-- what follows from what was found follows wherever something was
pub where-found : {A E : Type 0} (U : Type 0) (P Q : A → Type 0) → ((x : A) → P x → Q x) → (read : Result (Option A) E) → IfOk read (λ o. MatchOption o U P) → IfOk read (λ o. IfSome o Q)
where-found U P Q f (Ok (Some x)) h = f x h
where-found U P Q f (Ok None) h = tt
where-found U P Q f (Err e) h = tt
