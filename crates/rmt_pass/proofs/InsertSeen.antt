-- What a client knows once it has taken over a number of its own, or a block.
use Rattle.std.proofs.Common.{◌≡◌, ℕ, ◌+◌, ◌<◌, Bool, false, List, [], ◌∷◌, length, set, refl, sym, ap, subst, ◌∙◌}
use Rattle.std.specs.Prelude.{IfOk, IfSome}
use Rattle.std.specs.declared.option.Option.{Option}
use Rattle.std.specs.declared.option.Option.TheVariants.{Some, None}
use Rattle.std.specs.declared.result.Result.{Result}
use Rattle.std.specs.declared.alloc.AllocError.{AllocError}
use Rattle.rmt_block.specs.Blocks.{BlockView}
use Rattle.rmt_block.specs.declared.block_id.BlockId.{BlockId}
use Rattle.rmt_entries.specs.declared.entry.Entry.{Entry}
use Rattle.rmt_entries.specs.declared.entry.Entry.TheVariants.{Get}
use Rattle.rmt_model.specs.Lawful.{IsPrefix}
use Rattle.rmt_model.specs.Quorum.{Quorum}
use Rattle.rmt_model.specs.EntryLimits.{client_count}
use Rattle.rmt_events.specs.Views.{Block, Table, Lock as TableLock}
use Rattle.rmt_model.specs.Words.{Has}
use Rattle.rmt_events.proofs.TableSteps.{lock-new}
use Rattle.rmt_events.specs.Clusters.{values_of, without_kinds}
use Rattle.rmt_events.specs.TableCalls.{Allocates}
use Rattle.rmt_model.specs.BlockNumbers.{next_number}
use Rattle.rmt_table_model.specs.Held.{Held}
use Rattle.rmt_table.specs.TableTrees.{table_at, AfterNoCommit, IsUnlocked}
use Rattle.rmt_table.specs.Causes.{commit_cause}
use Rattle.rmt_table.specs.Refusals.{NoCommit}
use Rattle.rmt_table.specs.declared.commit_error.CommitError.{CommitError}
use Rattle.rmt_table.specs.declared.commit_error.CommitError.TheVariants as commits
use Rattle.rmt_table.specs.declared.lock.Lock.{Lock}
use Rattle.rmt_table.proofs.Appended.{clients-next}
use Rattle.rmt_statement_model.specs.TableStates.{learned, kept_with}
use Rattle.rmt_statement_model.specs.Books.{all_clients}
use Rattle.rmt_statement_model.specs.Inserts.{Asked, asked_at, quorum_refusal}
use Rattle.rmt_clients.specs.Clients.{Client, KnowsTable, known_table}
use Rattle.rmt_known.specs.KnownTables.{Known, KeepsCopy, client_of, known_state, seen_of}
use Rattle.rmt_shared.specs.SharedTables.{ChangesTable, HasBlocks}
use Rattle.rmt_shared.specs.ClientCalls.{HasTable, GivesNumber, AcceptsBlock}
use Rattle.rmt_pass.specs.Passes.{PassView, SeesAs, IsCurrent, KeepsPass, TakesOver, known_in, known_at, client_at, logs_in}
use Rattle.rmt_pass.specs.InsertSteps.{AreOpen, HoldsLock, WasGone, CommitsTo, IsIdOf, IsLate, IsUncommitted, HoldsNumber, GoesIn}
use Rattle.rmt_pass.specs.declared.committed.Committed.{Committed}
use Rattle.rmt_pass.specs.declared.numbered.Numbered.TheVariants.{Taken}
use Rattle.rmt_pass.proofs.SeenLemmas.{clients-kept}
use Rattle.rmt_pass.proofs.OwnLemmas.{knowing, known-now, keeps-known, before-there, after-there, left-there, left-in, entry-more, one-more, learned-keeps, learned-sees, learned-schema, learned-fetching, learned-known, learned-clients}
use Rattle.rmt_pass.proofs.InsertLemmas.{takes, goes-in, kept-seen, lacks-room, quorum-few, quorum-waits}

-- ---- a number

module _ (p : PassView) (k : ℕ) (old new : List Held) (there : k < length old) (now : IsCurrent p k old) (replica need : ℕ) (id : BlockId) (lock : Lock) (c : ChangesTable old k (λ t u. GivesNumber replica id need lock t u) new) where
  found : c.table ≡ now.table
  found = before-there old k (λ t u. GivesNumber replica id need lock t u) new c now.table there now.is

  sees : SeesAs (client_at p k) c.table
  sees = subst (λ (h : Held). SeesAs (client_at p k) h) (sym found) now.now

  same-log : c.after.log ≡ (known_at p k).log
  same-log = ap (λ (x : Table). x.log) c.change.allocates.change ∙ sym sees.log

  pub number-goes-on : HasTable new k (λ h. IsPrefix (known_at p k).log h.log)
  number-goes-on = record {
    table = c.after;
    is = left-there old k (λ t u. GivesNumber replica id need lock t u) new c there;
    fact = record { gained = []; is = same-log };
  }

  -- the lock is there
  pub number-locked : HoldsLock (Taken lock) new k
  number-locked = record {
    table = c.after;
    is = left-there old k (λ t u. GivesNumber replica id need lock t u) new c there;
    fact =
        let same : lock.id ≡ id = ap (λ (x : Lock). x.id) c.change.is in
        let held : TableLock = record { partition = id.partition; number = lock.number; owner = replica } in
        record {
          lock = held;
          is_in = subst (λ (ls : List TableLock). Has ls held) (sym (ap (λ (t : Table). t.locks) c.change.allocates.change)) (lock-new held (table_at c.table).locks);
          partition = ap (λ (x : BlockId). x.partition) (sym same);
          number = refl;
        };
  }

  module _ (here : k < length p.tables) (known : List Known) (o : HasTable new k (λ h. TakesOver p.tables k h known)) where
    left : o.table ≡ c.after
    left = after-there old k (λ t u. GivesNumber replica id need lock t u) new c o.table there o.is

    abbrev taken : Known
    taken = seen_of o.table o.fact.cells (known_at p k)

    at : known_in known k ≡ taken
    at = known-now p k here known taken o.fact.change

    log : o.table.log ≡ (known_at p k).log
    log = ap (λ (h : Held). h.log) left ∙ same-log

    quorum : o.table.quorum ≡ (known_at p k).quorum
    quorum = ap (λ (h : Held). h.quorum) left ∙ (ap (λ (x : Table). x.quorum) c.change.allocates.change ∙ sym sees.quorum)

    schema : (known_at p k).schema ≡ o.table.schema
    schema = sees.schema ∙ (ap (λ (x : Table). x.schema) (sym c.change.allocates.change) ∙ ap (λ (h : Held). h.schema) (sym left))

    pub number-count : all_clients (logs_in known) ≡ all_clients (logs_in p.tables)
    number-count = ap (λ (ks : List Known). all_clients (logs_in ks)) o.fact.change ∙ clients-kept p k taken here (ap client_count log)

    pub number-now : IsCurrent (knowing p known false) k new
    number-now =
        let q = ap client_of at in
        record {
          there = left-in old k (λ t u. GivesNumber replica id need lock t u) new c there;
          table = o.table;
          is = o.is;
          now = record {
            schema = ap (λ (x : Client). x.schema) q ∙ schema;
            log = ap (λ (x : Client). x.log) q;
            next = ap (λ (x : Client). x.next) q;
            quorum = ap (λ (x : Client). x.quorum) q;
          };
          goes = refl;
        }

    pub number-keeps : KeepsPass p k (knowing p known false)
    number-keeps = keeps-known p k here known taken o.fact.change false refl refl refl

    pub number-taken : (up : ℕ → Bool) (b : Block) → AreOpen up now.table → IsIdOf b id → HoldsNumber up (asked_at replica need) b lock (client_at p k) (client_of (known_in known k))
    number-taken up b open_so i =
        let same : lock.id ≡ id = ap (λ (x : Lock). x.id) c.change.is in
        takes up (client_at p k) c.table c.after (asked_at replica need) b lock (client_of (known_in known k)) sees (subst (λ (h : Held). AreOpen up h) (sym found) open_so)
        (subst (λ (x : BlockId). IsIdOf b x) (sym same) i)
        (ap (λ (x : Lock). x.replica) c.change.is)
        (ap (λ (x : Lock). x.number) c.change.is ∙ ap (λ (x : BlockId). next_number c.table.next x.partition) (sym same))
        c.change.quorum
        (subst (λ (x : BlockId). Allocates (table_at c.table) replica x.partition x.digest lock.number (table_at c.after)) (sym same) c.change.allocates)
        (record {
          seen = ap client_of at
              ∙ (ap (λ (l : List Entry). record (client_at p k) { log = l; next = o.table.next; quorum = o.table.quorum }) log
              ∙ (ap (λ (x : Quorum). record (client_at p k) { next = o.table.next; quorum = x }) quorum
              ∙ ap (λ (h : Held). record (client_at p k) { next = h.next }) left));
        })

-- ---- a block

module _ (p : PassView) (k : ℕ) (old new : List Held) (there : k < length old) (now : IsCurrent p k old) (lock : Lock) (need : ℕ) (block : BlockView) (c : ChangesTable old k (λ t u. AcceptsBlock lock need block t u) new) where
  block-found : c.table ≡ now.table
  block-found = before-there old k (λ t u. AcceptsBlock lock need block t u) new c now.table there now.is

  block-sees : SeesAs (client_at p k) c.table
  block-sees = subst (λ (h : Held). SeesAs (client_at p k) h) (sym block-found) now.now

  abbrev get : Entry
  get = Get lock.id.partition lock.number lock.id.digest lock.replica need

  gains : c.after.log ≡ get ∷ c.table.log
  gains = ap (λ (x : Table). x.log) c.change.commits.change

  pub block-goes-on : HasTable new k (λ h. IsPrefix (known_at p k).log h.log)
  block-goes-on = record {
    table = c.after;
    is = left-there old k (λ t u. AcceptsBlock lock need block t u) new c there;
    fact = entry-more get (known_at p k).log c.table.log c.after.log gains block-sees.log;
  }

  module _ (here : k < length p.tables) (known : List Known) (h : HasTable new k (λ h. TakesOver p.tables k h known)) (place : ℕ) (n1 n2 : Known) (at : n1 ≡ known_in known k) (l : KnowsTable (client_of n2) (record (known_state n1) { known = learned (known_state n1).known lock.replica place })) (keep : KeepsCopy n1 n2) where
    block-left : h.table ≡ c.after
    block-left = after-there old k (λ t u. AcceptsBlock lock need block t u) new c h.table there h.is

    block-schema : (known_at p k).schema ≡ h.table.schema
    block-schema = block-sees.schema ∙ (ap (λ (x : Table). x.schema) (sym c.change.commits.change) ∙ ap (λ (x : Held). x.schema) (sym block-left))

    now-sees : SeesAs (client_of (known_in (set known k n2) k)) h.table
    now-sees = learned-sees p k here h.table block-schema known h.fact lock.replica place n1 n2 at l keep

    pub block-keeps : KeepsPass p k (knowing p (set known k n2) false)
    block-keeps = learned-keeps p k here h.table block-schema known h.fact lock.replica place n1 n2 at l keep false

    pub block-now : IsCurrent (knowing p (set known k n2) false) k new
    block-now = record { there = left-in old k (λ t u. AcceptsBlock lock need block t u) new c there; table = h.table; is = h.is; now = now-sees; goes = refl }

    pub block-counted : all_clients (logs_in (set known k n2)) ≡ all_clients (logs_in p.tables) + 1
    block-counted =
        learned-clients p k here h.table block-schema known h.fact lock.replica place n1 n2 at l keep
        ∙ one-more p k h.table known get c.table.log here h.fact (ap (λ (x : Held). x.log) block-left ∙ gains) block-sees.log (clients-next get c.table.log)

    pub block-done : (O : ℕ → Block → Type 0) (up : ℕ → Bool) (before : Client) → HoldsNumber up (asked_at lock.replica need) (without_kinds block) lock before (client_at p k) → HasBlocks (O k) now.table → O k (without_kinds block) → place ≡ length now.table.log → GoesIn (O k) (asked_at lock.replica need) (without_kinds block) place before (client_of (known_in (set known k n2) k))
    block-done O up before holds blocks offered e =
        let length_so : length c.table.log ≡ place = ap (λ (x : Held). length x.log) block-found ∙ sym e in
        subst (λ (n : ℕ). GoesIn (O k) (asked_at lock.replica need) (without_kinds block) n before (client_of (known_in (set known k n2) k))) length_so
        (goes-in (O k) up before (client_at p k) c.table c.after (asked_at lock.replica need) (without_kinds block) lock (client_of (known_in (set known k n2) k)) holds block-sees
        (subst (λ (x : Held). HasBlocks (O k) x) (sym block-found) blocks) offered c.change.commits (record {
          sees = subst (λ (x : Held). SeesAs (client_of (known_in (set known k n2) k)) x) block-left now-sees;
          schema = learned-schema p k here h.table block-schema known h.fact lock.replica place n1 n2 at l keep;
          fetching = learned-fetching p k here h.table block-schema known h.fact lock.replica place n1 n2 at l keep;
          known = λ j i. learned-known p k here h.table block-schema known h.fact lock.replica place n1 n2 at l keep j i ∙ ap (λ (x : ℕ). learned (client_at p k).known lock.replica x j i) (sym length_so);
        }))

-- ---- a block that isn't accepted

stayed : (t u : Held) → u ≡ t → (u.schema ≡ t.schema) × (u.log ≡ t.log) × (u.next ≡ t.next) × (u.quorum ≡ t.quorum)
stayed t u e = (ap (λ (h : Held). h.schema) e, ap (λ (h : Held). h.log) e, ap (λ (h : Held). h.next) e, ap (λ (h : Held). h.quorum) e)

unlocked : (t u : Held) (o : Option ℕ) (n : ℕ) → IsUnlocked t o n u → (u.schema ≡ t.schema) × (u.log ≡ t.log) × (u.next ≡ t.next) × (u.quorum ≡ t.quorum)
unlocked t u o n e = (ap (λ (x : Table). x.schema) e.seen, ap (λ (x : Table). x.log) e.seen, ap (λ (x : Table). x.next) e.seen, ap (λ (x : Table). x.quorum) e.seen)

-- where a lock is gone, the client knows the table still
pub unlocked-now : (p : PassView) (k : ℕ) (old new : List Held) (Change : Held → Held → Type 0) (c : ChangesTable old k Change new) → k < length old → (now : IsCurrent p k old) → (c.after.schema ≡ c.table.schema) × (c.after.log ≡ c.table.log) × (c.after.next ≡ c.table.next) × (c.after.quorum ≡ c.table.quorum) → IsCurrent p k new
unlocked-now p k old new Change c there now same =
    let found = before-there old k Change new c now.table there now.is in
    record {
      there = left-in old k Change new c there;
      table = c.after;
      is = left-there old k Change new c there;
      now = record {
        schema = now.now.schema ∙ (ap (λ (h : Held). h.schema) (sym found) ∙ sym same.0);
        log = now.now.log ∙ (ap (λ (h : Held). h.log) (sym found) ∙ sym same.1);
        next = now.now.next ∙ (ap (λ (h : Held). h.next) (sym found) ∙ sym same.2);
        quorum = now.now.quorum ∙ (ap (λ (h : Held). h.quorum) (sym found) ∙ sym same.3);
      };
      goes = now.goes;
    }

-- whatever the answer on a block that isn't accepted, the client knows the table still
pub aborted-now : (p : PassView) (k : ℕ) (old new : List Held) (lock : Lock) (e : CommitError) → k < length old → IsCurrent p k old → ChangesTable old k (λ t u. AfterNoCommit t lock e u) new → IsCurrent p k new
aborted-now p k old new lock (commits.LockGone n) there now c = unlocked-now p k old new (λ t u. AfterNoCommit t lock (commits.LockGone n) u) c there now (stayed c.table c.after c.change)
aborted-now p k old new lock (commits.TooFewLive live needed) there now c = unlocked-now p k old new (λ t u. AfterNoCommit t lock (commits.TooFewLive live needed) u) c there now (unlocked c.table c.after lock.id.partition lock.number c.change)
aborted-now p k old new lock (commits.QuorumPending part) there now c = unlocked-now p k old new (λ t u. AfterNoCommit t lock (commits.QuorumPending part) u) c there now (unlocked c.table c.after lock.id.partition lock.number c.change)
aborted-now p k old new lock (commits.Duplicate part) there now c = unlocked-now p k old new (λ t u. AfterNoCommit t lock (commits.Duplicate part) u) c there now (unlocked c.table c.after lock.id.partition lock.number c.change)
aborted-now p k old new lock (commits.LimitReached limit value) there now c = unlocked-now p k old new (λ t u. AfterNoCommit t lock (commits.LimitReached limit value) u) c there now (unlocked c.table c.after lock.id.partition lock.number c.change)
aborted-now p k old new lock commits.Memory there now c = unlocked-now p k old new (λ t u. AfterNoCommit t lock commits.Memory u) c there now (stayed c.table c.after c.change)

-- what the client knows of the quorum and of kept ids is as it was before it took the number
refusal-same : (up : ℕ → Bool) (a : Asked) (b : Block) (lock : Lock) (before now : Client) → HoldsNumber up a b lock before now → quorum_refusal up (known_table now) a.need ≡ None
refusal-same up a b lock before now h = ap (λ (x : Client). quorum_refusal up (known_table x) a.need) h.is ∙ h.takes.is_new.quorum

kept-same : (up : ℕ → Bool) (a : Asked) (b : Block) (lock : Lock) (before now : Client) → HoldsNumber up a b lock before now → kept_with (known_table now) b ≡ None
kept-same up a b lock before now h = ap (λ (x : Client). kept_with (known_table x) b) h.is ∙ h.takes.is_new.unkept

none-some : {A : Type 0} {x : A} (o : Option A) → o ≡ None → o ≡ Some x → ⊥
none-some o e f = absurd (cc)

-- so no block is refused for them
pub late : (up : ℕ → Bool) (a : Asked) (b : Block) (lock : Lock) (before now : Client) (t : Held) (values : ℕ) (e : CommitError) → HoldsNumber up a b lock before now → SeesAs now t → AreOpen up t → IfSome (commit_cause e) (NoCommit (table_at t) lock a.need values) → IsLate e
late up a b lock before now t values (commits.LockGone n) h s o r = tt
late up a b lock before now t values (commits.TooFewLive live needed) h s o r = none-some (quorum_refusal up (known_table now) a.need) (refusal-same up a b lock before now h) (quorum-few up now t a.need live needed o r.1)
late up a b lock before now t values (commits.QuorumPending part) h s o r = none-some (quorum_refusal up (known_table now) a.need) (refusal-same up a b lock before now h) (quorum-waits up now t a.need part s o r.1)
late up a b lock before now t values (commits.Duplicate part) h s o r = none-some (kept_with (known_table now) b) (kept-same up a b lock before now h) (kept-seen now t b lock.id.partition lock.id.digest s h.id.partition h.id.digest ∙ r.1.1)
late up a b lock before now t values (commits.LimitReached limit value) h s o r = tt
late up a b lock before now t values commits.Memory h s o r = tt

-- what becomes of it then
pub uncommitted-so : (O : Block → Type 0) (up : ℕ → Bool) (a : Asked) (b : Block) (lock : Lock) (now : Client) (t : Held) (e : CommitError) (r : Result Committed AllocError) → SeesAs now t → HasBlocks O t → IfSome (commit_cause e) (NoCommit (table_at t) lock a.need (values_of t.schema b.rows)) → IsUncommitted e r → IfOk r (λ c. (before : Client) → HoldsNumber up a b lock before now → CommitsTo O up a b before now c now)
uncommitted-so O up a b lock now t (commits.LockGone n) r s blocks why u = subst (λ (x : Result Committed AllocError). IfOk x (λ c. (before : Client) → HoldsNumber up a b lock before now → CommitsTo O up a b before now c now)) (sym u) (λ before h. refl)
uncommitted-so O up a b lock now t (commits.TooFewLive live needed) r s blocks why u = absurd u
uncommitted-so O up a b lock now t (commits.QuorumPending part) r s blocks why u = absurd u
uncommitted-so O up a b lock now t (commits.Duplicate part) r s blocks why u = absurd u
uncommitted-so O up a b lock now t (commits.LimitReached limit value) r s blocks why u = subst (λ (x : Result Committed AllocError). IfOk x (λ c. (before : Client) → HoldsNumber up a b lock before now → CommitsTo O up a b before now c now)) (sym u) (λ before h. lacks-room O up before now t a b lock limit value h s blocks why.1.2)
uncommitted-so O up a b lock now t commits.Memory r s blocks why u = subst (λ (x : Result Committed AllocError). IfOk x (λ c. (before : Client) → HoldsNumber up a b lock before now → CommitsTo O up a b before now c now)) (sym u) tt

-- ---- a lock that was gone

-- a block that isn't accepted since its lock was gone
pub was-gone : (tables : List Held) (k : ℕ) (lock : Lock) (need : ℕ) (block : BlockView) (e : CommitError) (r : Result Committed AllocError) → IfSome (commit_cause e) (λ why. HasTable tables k (λ t. NoCommit (table_at t) lock need (values_of t.schema block.rows) why)) → IsUncommitted e r → IfOk r (λ c. WasGone c tables k lock)
was-gone tables k lock need block (commits.LockGone n) r h is = subst (λ (x : Result Committed AllocError). IfOk x (λ c. WasGone c tables k lock)) (sym is) (record { table = h.table; is = h.is; fact = h.fact.1 })
was-gone tables k lock need block (commits.TooFewLive live needed) r h is = absurd is
was-gone tables k lock need block (commits.QuorumPending part) r h is = absurd is
was-gone tables k lock need block (commits.Duplicate part) r h is = absurd is
was-gone tables k lock need block (commits.LimitReached limit value) r h is = subst (λ (x : Result Committed AllocError). IfOk x (λ c. WasGone c tables k lock)) (sym is) tt
was-gone tables k lock need block commits.Memory r h is = subst (λ (x : Result Committed AllocError). IfOk x (λ c. WasGone c tables k lock)) (sym is) tt
