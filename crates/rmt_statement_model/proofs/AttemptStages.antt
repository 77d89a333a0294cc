-- The block of an attempt is staged: why nothing refuses it, and what the cluster shows then.
use Rattle.std.proofs.Common.{◌≡◌, ℕ, inl, inr, true, false, List, [], ◌∷◌, cond, Bool, refl, sym, ap, subst, ◌∙◌}
use Rattle.rmt_model.specs.Words.{Has}
use Rattle.rmt_model.proofs.LiveLaws.{Pairwise-cases}
use Rattle.rmt_events.specs.Views.{Block, Staged, Replica, Table}
use Rattle.rmt_events.specs.TableCalls.{IsLocked, kept_part}
use Rattle.rmt_events.specs.TableRefusals.{HasQuorum}
use Rattle.rmt_events.specs.ReplicaCalls.{IsStaged, comes_before, staged_without, staged_with}
use Rattle.rmt_events.specs.ReplicaCalls as calls
use Rattle.rmt_events.specs.Clusters.{Attempt, Cluster}
use Rattle.rmt_events.specs.Whole.{HoldDifferentNumbers, IsWhole}
use Rattle.rmt_events.specs.ClusterChanges.{IsNumbered, IsDown}
use Rattle.rmt_events.specs.InsertEvents.{StagesAttempt, NoStage}
use Rattle.rmt_events.specs.Steps.{Does, Step}
use Rattle.rmt_statement_model.specs.TableStates.{TableState}
use Rattle.rmt_statement_model.specs.Shows.{Shows, ups}
use Rattle.rmt_statement_model.specs.Inserts.{Asked}
use Rattle.rmt_statement_model.specs.Attempts.{attempt_of, IsOpen, IsStagedAt}
use Rattle.rmt_statement_model.proofs.Replaced.{numbered-new}
use Rattle.rmt_statement_model.proofs.UpLaws.{not-down}
use Rattle.rmt_statement_model.proofs.ShownSteps.{shows-quiet}
use Rattle.rmt_events.specs.declared.event.Event.TheVariants as ev
use Rattle.rmt_events.specs.declared.reply.Reply.{Reply}
use Rattle.rmt_events.specs.declared.reply.Reply.TheVariants as rp
use Rattle.rmt_events.specs.declared.step_refused.StepRefused.{StepRefused}
use Rattle.rmt_events.specs.declared.step_refused.StepRefused.TheVariants as rf

-- it is open, holds its number, and its block is staged
pub record IsReady (s : Cluster) (id : ℕ) (a : Asked) (b : Block) (n : ℕ) : Type 0 where
  pub is_open : IsOpen s id a b n
  pub staged : IsStagedAt s a.writer b n

-- two open attempts of one id are one
pub one-attempt : (s : Cluster) (a b : Attempt) → IsWhole s → Has s.attempts a → Has s.attempts b → a.id ≡ b.id → a ≡ b
one-attempt s a b w h k e = elim (Pairwise-cases HoldDifferentNumbers s.attempts a b w.apart h k) [
  | inl q ↦ q
  | inr o ↦ elim o [ inl u ↦ absurd (u.0 e) | inr u ↦ absurd (u.0 (sym e)) ]
]

-- a block that is put among the staged ones is there
block-new : (z : Staged) (ys : List Staged) → Has (calls.with_block z ys) z
block-new z [] = inl refl
block-new z (y ∷ ys) = go (comes_before y z) (block-new z ys)
  where
    go : (c : Bool) → Has (calls.with_block z ys) z → Has (cond c (y ∷ calls.with_block z ys) (z ∷ y ∷ ys)) z
    go true h = inr h
    go false h = inl refl

-- nothing keeps the block of an open attempt from being staged at a replica that is up
refused-stage : (s : Cluster) (id : ℕ) (a : Asked) (b : Block) (n : ℕ) (why : StepRefused) → IsWhole s → ups s a.writer ≡ true → IsOpen s id a b n → NoStage s id why → ⊥
refused-stage s id a b n rf.NoAttempt w up o c = c (attempt_of id a b n) (record { is_in = o.there; id_is = refl })
refused-stage s id a b n rf.Down w up o c =
    let q = one-attempt s c.0 (attempt_of id a b n) w c.1.is_in o.there c.1.id_is in
    not-down s a.writer w up (subst (λ j. IsDown s j) (ap (λ (x : Attempt). x.replica) q) c.2)
refused-stage s id a b n why w up o c = c

-- the attempt is open still, and its block is staged
stages : (s u : Cluster) (id : ℕ) (a : Asked) (b : Block) (n : ℕ) (reply : Reply) → IsOpen s id a b n → (k : Step s (ev.Stage id) reply u) → (d : StagesAttempt s id reply k.after) → d.attempt ≡ attempt_of id a b n → IsReady u id a b n
stages s u id a b n reply o k d q =
    record {
      is_open = record {
        there = subst (λ (x : Cluster). Has x.attempts (attempt_of id a b n)) (sym k.stored) (subst (λ (x : Cluster). Has x.attempts (attempt_of id a b n)) (sym d.at.change) o.there);
        locked = subst (λ (x : Table). IsLocked x.locks b.partition n) (sym table-is) o.locked;
        quorum = subst (λ (x : Table). HasQuorum x a.need) (sym table-is) o.quorum;
        unkept = ap (λ (x : Table). kept_part x.window b.partition b.digest) table-is ∙ o.unkept;
      };
      staged = record {
        replica = d.at.new;
        at = subst (λ j. IsNumbered u j d.at.new) (ap (λ (x : Attempt). x.replica) q) (numbered-new s u d.attempt.replica d.at.old d.at.new (ap (λ (x : Cluster). x.replicas) k.stored ∙ ap (λ (x : Cluster). x.replicas) d.at.change) (ap (λ (z : Replica). z.number) d.at.does) d.at.at);
        staged = record { is_in = subst (λ (zs : List Staged). Has zs (record { number = n; block = b })) (sym staged-are) (block-new (record { number = n; block = b }) (staged_without d.at.old.staged b.partition n)); partition = refl };
      };
    }
  where
    table-is : u.table ≡ s.table
    table-is = ap (λ (x : Cluster). x.table) k.stored ∙ ap (λ (x : Cluster). x.table) d.at.change

    staged-are : d.at.new.staged ≡ staged_with d.at.old.staged n b
    staged-are = ap (λ (z : Replica). z.staged) d.at.does ∙ ap (λ (x : Attempt). staged_with d.at.old.staged x.number x.block) q

-- the block is staged, and what is shown stays
pub staged : (s u : Cluster) (id : ℕ) (a : Asked) (b : Block) (n : ℕ) (reply : Reply) → IsWhole s → ups s a.writer ≡ true → IsOpen s id a b n → Step s (ev.Stage id) reply u → (reply ≡ rp.Done) × IsReady u id a b n × ((t : TableState) → Shows s t → Shows u t)
staged s u id a b n reply w up o k = go k.does
  where
    go : Does s (ev.Stage id) reply k.after → (reply ≡ rp.Done) × IsReady u id a b n × ((t : TableState) → Shows s t → Shows u t)
    go (inl d) = (
      d.answer,
      stages s u id a b n reply o k d (one-attempt s d.attempt (attempt_of id a b n) w d.is.is_in o.there d.is.id_is),
      λ t h. shows-quiet s u (ev.Stage id) reply t w tt k (ap (λ (x : Cluster). x.table) d.at.change) (ap (λ (x : Cluster). x.events) d.at.change) (λ xs i. refl) h,
    )
    go (inr d) = absurd (refused-stage s id a b n d.why w up o d.cause)
