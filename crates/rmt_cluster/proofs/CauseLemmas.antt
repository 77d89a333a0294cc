-- Why an insert's call on the table did nothing is why its event is refused.
use Rattle.std.proofs.Common.{◌≡◌, ℕ, true, false, List, sym, ap, subst, ◌∙◌}
use Rattle.std.specs.Prelude.{IfSome}
use Rattle.std.specs.declared.option.Option.{Option}
use Rattle.std.specs.declared.option.Option.TheVariants.{Some, None}
use Rattle.rmt_block.specs.declared.block_id.BlockId.{BlockId}
use Rattle.rmt_table_model.specs.Held.{Held}
use Rattle.rmt_table.specs.declared.lock.Lock.{Lock}
use Rattle.rmt_table.specs.declared.commit_error.CommitError.{CommitError}
use Rattle.rmt_table.specs.declared.commit_error.CommitError.TheVariants as commit
use Rattle.rmt_table.specs.Causes.{commit_cause}
use Rattle.rmt_table.specs.Refusals.{NoCommit}
use Rattle.rmt_table.specs.TableTrees.{table_at, IsUnlocked, AfterNoCommit}
use Rattle.rmt_events.specs.Views.{Block, Table}
use Rattle.rmt_events.specs.Clusters.{Attempt, Cluster, values_of}
use Rattle.rmt_events.specs.TableCalls.{IsLocked, Unlocks}
use Rattle.rmt_events.specs.TableRefusals.{NoNumber, NotAccepted}
use Rattle.rmt_events.specs.ClusterChanges.{IsAttempt}
use Rattle.rmt_events.specs.InsertEvents as insert
use Rattle.rmt_events.specs.declared.step_refused.StepRefused.{StepRefused}
use Rattle.rmt_events.specs.declared.step_refused.StepRefused.TheVariants as rf
use Rattle.rmt_cluster.specs.Attempts.{HoldsBlock}
use Rattle.rmt_cluster.specs.Causes.{is_final}

pub same-cause : (x y : StepRefused) → ◌≡◌ {A = Option StepRefused} (Some x) (Some y) → x ≡ y
same-cause x y e = cc

pub none-cause : (y : StepRefused) → ◌≡◌ {A = Option StepRefused} None (Some y) → ⊥
none-cause y e = absurd (cc)

-- ---- a number

-- why a block gets no number, told by the block's own words
no-number : (o : Option StepRefused) (why : StepRefused) (t : Table) (k : ℕ) (id : BlockId) (b : Block) (need : ℕ) → id.partition ≡ b.partition → id.digest ≡ b.digest → IfSome o (NoNumber t k id.partition id.digest need) → o ≡ Some why → NoNumber t k b.partition b.digest need why
no-number o why t k id b need p d n q =
    subst (λ (x : List ℕ). NoNumber t k b.partition x need why) d
    (subst (λ (x : Option ℕ). NoNumber t k x id.digest need why) p (subst (λ (x : Option StepRefused). IfSome x (NoNumber t k id.partition id.digest need)) q n))

-- the same, for an attempt that goes on
pub no-other : (o : Option StepRefused) (why : StepRefused) (s : Cluster) (id : ℕ) (a : Attempt) (k : BlockId) → IsAttempt s id a → (IsLocked s.table.locks a.block.partition a.number → ⊥) → k.partition ≡ a.block.partition → k.digest ≡ a.block.digest → IfSome o (NoNumber s.table a.replica k.partition k.digest a.need) → o ≡ Some why → insert.NoOther s id why
no-other o why s id a k is g p d n q =
    go why (no-number o why s.table a.replica k a.block a.need p d n q)
  where
    go : (w : StepRefused) → NoNumber s.table a.replica a.block.partition a.block.digest a.need w → insert.NoOther s id w
    go rf.NoAttempt c = absurd c
    go rf.LockHeld c = absurd c
    go w c = (a, is, g, c)

-- ---- a commit

-- the lock of an attempt, told by the attempt's own words
locked-same : (t : Table) (k : Lock) (a : Attempt) → HoldsBlock k a.block → k.number ≡ a.number → IsLocked t.locks k.id.partition k.number → IsLocked t.locks a.block.partition a.number
locked-same t k a h n l = subst (λ m. IsLocked t.locks a.block.partition m) n (subst (λ (o : Option ℕ). IsLocked t.locks o k.number) h.partition l)

pub locked-back : (t : Table) (k : Lock) (a : Attempt) → HoldsBlock k a.block → k.number ≡ a.number → IsLocked t.locks a.block.partition a.number → IsLocked t.locks k.id.partition k.number
locked-back t k a h n l = subst (λ m. IsLocked t.locks k.id.partition m) (sym n) (subst (λ (o : Option ℕ). IsLocked t.locks o a.number) (sym h.partition) l)

-- the block is refused for good: its lock was there, and goes
pub record IsLostFor (s : Cluster) (a : Attempt) (k : Lock) (old new : Held) (why : StepRefused) : Type 0 where
  pub cause : insert.LostFor s a why
  pub locked : IsLocked s.table.locks a.block.partition a.number
  pub unlocks : Unlocks (table_at old) k.id.partition k.number (table_at new)

-- why the block of a lock isn't accepted, told by the attempt's own words
accepted-same : (why : StepRefused) (s : Cluster) (a : Attempt) (k : Lock) (values : ℕ) → HoldsBlock k a.block → values ≡ values_of s.table.schema a.block.rows → NotAccepted s.table k.id.partition k.id.digest a.need values why → insert.LostFor s a why
accepted-same why s a k values h v c =
    subst (λ m. NotAccepted s.table a.block.partition a.block.digest a.need m why) v
    (subst (λ (x : List ℕ). NotAccepted s.table a.block.partition x a.need values why) h.digest
    (subst (λ (x : Option ℕ). NotAccepted s.table x k.id.digest a.need values why) h.partition c))

lost : (w why : StepRefused) (s : Cluster) (a : Attempt) (k : Lock) (values : ℕ) (old new : Held) → HoldsBlock k a.block → k.number ≡ a.number → values ≡ values_of s.table.schema a.block.rows
    → IsLocked s.table.locks k.id.partition k.number × NotAccepted s.table k.id.partition k.id.digest a.need values w → Unlocks (table_at old) k.id.partition k.number (table_at new) → w ≡ why → IsLostFor s a k old new why
lost w why s a k values old new h n v c u q = record {
  cause = subst (insert.LostFor s a) q (accepted-same w s a k values h v c.1);
  locked = locked-same s.table k a h n c.0;
  unlocks = u;
}

pub lost-for : (e : CommitError) (why : StepRefused) (s : Cluster) (a : Attempt) (k : Lock) (values : ℕ) (old new : Held) → HoldsBlock k a.block → k.number ≡ a.number → values ≡ values_of s.table.schema a.block.rows → IfSome (commit_cause e) (NoCommit s.table k a.need values) → AfterNoCommit old k e new → is_final e ≡ true → commit_cause e ≡ Some why → IsLostFor s a k old new why
lost-for (commit.LockGone m) why s a k values old new h n v c u f q = absurd (cc)
lost-for commit.Memory why s a k values old new h n v c u f q = absurd (cc)
lost-for (commit.TooFewLive live needed) why s a k values old new h n v c u f q =
    lost (rf.TooFewLive live needed) why s a k values old new h n v c (IsUnlocked.seen u) (same-cause _ why q)
lost-for (commit.QuorumPending x) why s a k values old new h n v c u f q =
    lost (rf.QuorumPending x) why s a k values old new h n v c (IsUnlocked.seen u) (same-cause _ why q)
lost-for (commit.Duplicate x) why s a k values old new h n v c u f q =
    lost (rf.Duplicate x) why s a k values old new h n v c (IsUnlocked.seen u) (same-cause _ why q)
lost-for (commit.LimitReached limit value) why s a k values old new h n v c u f q =
    lost (rf.LimitReached limit value) why s a k values old new h n v c (IsUnlocked.seen u) (same-cause _ why q)

-- the lock of an attempt is gone
pub record IsGone (s : Cluster) (a : Attempt) (old new : Held) (why : StepRefused) : Type 0 where
  pub cause : why ≡ rf.LockGone a.number
  pub gone : IsLocked s.table.locks a.block.partition a.number → ⊥
  pub same : new ≡ old

pub gone-for : (e : CommitError) (why : StepRefused) (s : Cluster) (a : Attempt) (k : Lock) (values : ℕ) (old new : Held) → HoldsBlock k a.block → k.number ≡ a.number → IfSome (commit_cause e) (NoCommit s.table k a.need values) → AfterNoCommit old k e new → is_final e ≡ false → commit_cause e ≡ Some why → IsGone s a old new why
gone-for (commit.LockGone m) why s a k values old new h n c u f q = record {
  cause = sym (same-cause _ why q) ∙ ap rf.LockGone (c.0 ∙ n);
  gone = λ l. c.1 (locked-back s.table k a h n l);
  same = u;
}
gone-for commit.Memory why s a k values old new h n c u f q = absurd (none-cause why q)
gone-for (commit.TooFewLive live needed) why s a k values old new h n c u f q = absurd (cc)
gone-for (commit.QuorumPending x) why s a k values old new h n c u f q = absurd (cc)
gone-for (commit.Duplicate x) why s a k values old new h n c u f q = absurd (cc)
gone-for (commit.LimitReached limit value) why s a k values old new h n c u f q = absurd (cc)

-- no memory was left: nothing changed
pub no-memory : (e : CommitError) (k : Lock) (old new : Held) → commit_cause e ≡ None → AfterNoCommit old k e new → new ≡ old
no-memory commit.Memory k old new q u = u
no-memory (commit.LockGone m) k old new q u = u
no-memory (commit.TooFewLive live needed) k old new q u = absurd (cc)
no-memory (commit.QuorumPending x) k old new q u = absurd (cc)
no-memory (commit.Duplicate x) k old new q u = absurd (cc)
no-memory (commit.LimitReached limit value) k old new q u = absurd (cc)
