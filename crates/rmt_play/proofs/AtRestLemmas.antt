-- Tables at rest, whatever names the blocks that may come to them.
use Rattle.std.proofs.Common.{◌≡◌, ℕ, suc, ◌<◌, Bool, List, [], ◌∷◌, ◌++◌, length, refl, ap, arith}
use Rattle.rmt_entries.specs.declared.entry.Entry.{Entry}
use Rattle.rmt_entries.specs.declared.entry.Entry.TheVariants.{Get, Merge, Mutate, Mutation, DropRange}
use Rattle.rmt_model.specs.Words.{Each}
use Rattle.rmt_events.specs.Views.{Block}
use Rattle.rmt_events.specs.Clusters.{Accepted, without_kinds}
use Rattle.rmt_table_model.specs.Held.{Held}
use Rattle.rmt_part.specs.Lineages.{PartValue}
use Rattle.rmt_replica.specs.Replicas.{ReplicaView}
use Rattle.rmt_state.specs.States.{StateView}
use Rattle.rmt_statement_model.specs.TableStates.{TableState}
use Rattle.rmt_clients.specs.Clients.{Client, AreAccepted, Fits, RestsAnd, StepsTo}
use Rattle.rmt_known.specs.KnownTables.{Known}
use Rattle.rmt_shared.specs.SharedTables.{HasBlocks}
use Rattle.rmt_shared.specs.SharedReplicas.{IsMadeOf}
use Rattle.rmt_workers.specs.Closing.{AreAtRest, IsAtRest, IsAtRestReplica}

pub each-as : {A : Type 0} (P Q : A → Type 0) → ((x : A) → P x → Q x) → (xs : List A) → Each P xs → Each Q xs
each-as P Q f [] e = tt
each-as P Q f (x ∷ xs) e = (f x e.0, each-as P Q f xs e.1)

-- ---- blocks that are these are those

module _ (A B : Block → Type 0) (f : (b : Block) → A b → B b) where
  pub accepted-as : (log : List Entry) (blocks : List Accepted) → AreAccepted A log blocks → AreAccepted B log blocks
  accepted-as [] [] a = tt
  accepted-as [] (b ∷ blocks) a = absurd a
  accepted-as (Get p n digest source need ∷ log) (b ∷ blocks) a = (record { block = a.0.block; offered = f a.0.block a.0.offered; partition = a.0.partition; same_id = a.0.same_id; accepted = a.0.accepted }, accepted-as log blocks a.1)
  accepted-as (Get p n digest source need ∷ log) [] a = absurd a
  accepted-as (Merge name sources count ∷ log) blocks a = accepted-as log blocks a
  accepted-as (Mutate old name upto count mcount ∷ log) blocks a = accepted-as log blocks a
  accepted-as (Mutation id numbers command ∷ log) blocks a = accepted-as log blocks a
  accepted-as (DropRange p n ∷ log) blocks a = accepted-as log blocks a

  blocks-as : (h : Held) → HasBlocks A h → HasBlocks B h
  blocks-as h b = record { blocks = b.blocks; accepted = accepted-as h.log b.blocks b.accepted; counted = b.counted }

  made-as : (parts : List PartValue) → Each (IsMadeOf A) parts → Each (IsMadeOf B) parts
  made-as parts e = each-as (IsMadeOf A) (IsMadeOf B) (λ part m. each-as (λ b. A (without_kinds b.block)) (λ b. B (without_kinds b.block)) (λ b h. f (without_kinds b.block) h) part.blocks m) parts e

  replica-as : (up : List Bool) (known : Known) (tree : Held) (r : ReplicaView) → IsAtRestReplica A up known tree r → IsAtRestReplica B up known tree r
  replica-as up known tree r i = record {
    ups = i.ups;
    fetches = i.fetches;
    has_known = i.has_known;
    few = i.few;
    row = i.row;
    blocks = record { staged = each-as (λ s. A (without_kinds s.1)) (λ s. B (without_kinds s.1)) (λ s h. f (without_kinds s.1) h) r.staged i.blocks.staged; parts = made-as r.parts i.blocks.parts };
    fitting = i.fitting;
    standing = i.standing;
  }

  pub rest-as : (up : List Bool) (known : Known) (s : StateView) → IsAtRest A up known s → IsAtRest B up known s
  rest-as up known s i = record {
    state = i.state;
    of = i.of;
    sees = i.sees;
    sessions = i.sessions;
    all = i.all;
    lawful = i.lawful;
    blocks = blocks-as s.tree i.blocks;
    replicas = each-as (IsAtRestReplica A up known s.tree) (IsAtRestReplica B up known s.tree) (λ r h. replica-as up known s.tree r h) s.replicas i.replicas;
  }

  pub fits-as-offered : (p : Client) (t : TableState) → Fits A p t → Fits B p t
  fits-as-offered p t h = record { knows = h.knows; blocks = accepted-as t.log t.blocks h.blocks }

-- ---- each of the tables

pub all-rest-as : (A B : ℕ → Block → Type 0) (up : List Bool) (known : List Known) (states : List StateView) → ((k : ℕ) → k < length states → (b : Block) → A k b → B k b) → AreAtRest A up known states → AreAtRest B up known states
all-rest-as A B up [] [] f a = tt
all-rest-as A B up [] (s ∷ states) f a = absurd a
all-rest-as A B up (k ∷ known) [] f a = absurd a
all-rest-as A B up (k ∷ known) (s ∷ states) f a =
    (rest-as (A 0) (B 0) (f 0 (omega arith)) up k s a.0, all-rest-as (λ i. A (suc i)) (λ i. B (suc i)) up known states (λ i l. f (suc i) (omega (arith, l))) a.1)

-- one more
pub all-rest-more : (A : ℕ → Block → Type 0) (up : List Bool) (known : List Known) (states : List StateView) (k : Known) (s : StateView) → AreAtRest A up known states → IsAtRest (A (length states)) up k s → AreAtRest A up (known ++ k ∷ []) (states ++ s ∷ [])
all-rest-more A up [] [] k s a i = (i, tt)
all-rest-more A up [] (t ∷ states) k s a i = absurd a
all-rest-more A up (j ∷ known) [] k s a i = absurd a
all-rest-more A up (j ∷ known) (t ∷ states) k s a i = (a.0, all-rest-more (λ n. A (suc n)) up known states k s a.1 i)

pub rest-length : (A : ℕ → Block → Type 0) (up : List Bool) (known : List Known) (states : List StateView) → AreAtRest A up known states → length known ≡ length states
rest-length A up [] [] a = refl
rest-length A up [] (s ∷ states) a = absurd a
rest-length A up (k ∷ known) [] a = absurd a
rest-length A up (k ∷ known) (s ∷ states) a = ap suc (rest-length (λ i. A (suc i)) up known states a.1)

-- ---- a step, whatever names the blocks

pub steps-as : (A B : Block → Type 0) → ((b : Block) → A b → B b) → ((b : Block) → B b → A b) → (p q : Client) (Change : TableState → TableState → Type 0) → StepsTo A p Change q → StepsTo B p Change q
steps-as A B f g p q Change s clear t h =
    let r : RestsAnd A q Change t = s (λ b c x y. clear b c (f b x) (f c y)) t (fits-as-offered B A g p t h) in
    record { at = r.at; rests = r.rests; comes = record { after = r.comes.after; change = r.comes.change; fits = fits-as-offered A B f q r.comes.after r.comes.fits } }
