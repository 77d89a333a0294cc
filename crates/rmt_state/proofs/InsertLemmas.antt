-- An insert's calls on the table leave a state of the table and its replicas.
use Rattle.std.proofs.Common.{◌≡◌, ℕ, List, length, sym, ap, subst}
use Rattle.std.specs.Prelude.{OnOk, IfErr}
use Rattle.std.specs.declared.option.Option.{Option}
use Rattle.std.specs.declared.result.Result.{Result}
use Rattle.std.specs.declared.result.Result.TheVariants.{Ok, Err}
use Rattle.rmt_entries.specs.declared.entry.Entry.{Entry}
use Rattle.rmt_model.specs.Lawful.{IsPrefix}
use Rattle.rmt_table_model.specs.Held.{Held}
use Rattle.rmt_table.specs.declared.lock.Lock.{Lock}
use Rattle.rmt_table.specs.declared.commit_error.CommitError.{CommitError}
use Rattle.rmt_table.specs.declared.commit_error.CommitError.TheVariants as commit
use Rattle.rmt_table.specs.TableTrees.{table_at, IsUnlocked, AfterNoCommit}
use Rattle.rmt_replica.specs.Replicas.{ReplicaView}
use Rattle.rmt_events.specs.Views.{Table}
use Rattle.rmt_events.specs.TableCalls.{Allocates, Commits, Unlocks}
use Rattle.rmt_state.specs.States.{IsState}
use Rattle.rmt_state.proofs.StateLemmas.{prefix-self, KeepsTable, GoesOn, goes-on-same, state-on}
use Rattle.rmt_state.proofs.ChangeLemmas.{appended-on}

same-log : (old new : Held) → new.schema ≡ old.schema → new.log ≡ old.log → KeepsTable old new → GoesOn old new
same-log old new s l n = record { schema = s; log = subst (λ (v : List Entry). IsPrefix old.log v) (sym l) (prefix-self old.log); table = n }

pub allocates-on : (old new : Held) (r : ℕ) (p : Option ℕ) (digest : List ℕ) (n : ℕ) → KeepsTable old new → Allocates (table_at old) r p digest n (table_at new) → GoesOn old new
allocates-on old new r p digest n e c = same-log old new (ap (λ (t : Table). t.schema) c.change) (ap (λ (t : Table). t.log) c.change) e

pub unlocks-on : (old new : Held) (p : Option ℕ) (n : ℕ) → KeepsTable old new → Unlocks (table_at old) p n (table_at new) → GoesOn old new
unlocks-on old new p n e c = same-log old new (ap (λ (t : Table). t.schema) c) (ap (λ (t : Table). t.log) c) e

commits-on : (old new : Held) (p : Option ℕ) (n : ℕ) (digest : List ℕ) (r need values : ℕ) → KeepsTable old new → Commits (table_at old) p n digest r need values (table_at new) → GoesOn old new
commits-on old new p n digest r need values e c = appended-on _ old new (ap (λ (t : Table). t.schema) c.change) (ap (λ (t : Table). t.log) c.change) e

no-commit-on : (old new : Held) (k : Lock) (x : CommitError) → KeepsTable old new → AfterNoCommit old k x new → GoesOn old new
no-commit-on old new k (commit.LockGone n) e a = goes-on-same old new a
no-commit-on old new k commit.Memory e a = goes-on-same old new a
no-commit-on old new k (commit.TooFewLive live needed) e a = unlocks-on old new k.id.partition k.number e (IsUnlocked.seen a)
no-commit-on old new k (commit.QuorumPending p) e a = unlocks-on old new k.id.partition k.number e (IsUnlocked.seen a)
no-commit-on old new k (commit.Duplicate p) e a = unlocks-on old new k.id.partition k.number e (IsUnlocked.seen a)
no-commit-on old new k (commit.LimitReached limit value) e a = unlocks-on old new k.id.partition k.number e (IsUnlocked.seen a)

-- the state once a commit was answered, whichever way
pub state-committed : {A : Type 0} (r : Result A CommitError) (old new : Held) (k : Lock) (need values : ℕ) (rs : List ReplicaView) → IsState (record { tree = old; replicas = rs }) → KeepsTable old new
    → OnOk r (Commits (table_at old) k.id.partition k.number k.id.digest k.replica need values (table_at new)) → IfErr r (λ x. AfterNoCommit old k x new) → IsState (record { tree = new; replicas = rs })
state-committed (Ok a) old new k need values rs s e c n = state-on old new rs (commits-on old new k.id.partition k.number k.id.digest k.replica need values e c) s
state-committed (Err x) old new k need values rs s e c n = state-on old new rs (no-commit-on old new k x e n) s
