-- The accepted blocks of a table after a call.
use Rattle.std.proofs.Common.{◌≡◌, ℕ, zero, suc, ◌+◌, ◌<◌, List, [], ◌∷◌, length, set, get_or, refl, sym, ap, subst, arith, ◌∙◌}
use Rattle.rmt_values.specs.Rows.{Shape}
use Rattle.rmt_entries.specs.declared.entry.Entry.{Entry}
use Rattle.rmt_entries.specs.declared.entry.Entry.TheVariants.{Get, Merge, Mutate, Mutation, DropRange}
use Rattle.rmt_events.specs.Views.{Block}
use Rattle.rmt_events.specs.Clusters.{Accepted, values_in, values_of}
use Rattle.rmt_table_model.specs.Held.{Held}
use Rattle.rmt_clients.specs.Clients.{AreAccepted}
use Rattle.rmt_shared.specs.SharedTables.{HasBlocks, HaveBlocks}

-- the entry is no block's
abbrev pub IsOfNoBlock : Entry → Type 0
IsOfNoBlock (Get p n digest source need) = ⊥
IsOfNoBlock (Merge name sources count) = Unit {0}
IsOfNoBlock (Mutate old name upto count mcount) = Unit {0}
IsOfNoBlock (Mutation id numbers command) = Unit {0}
IsOfNoBlock (DropRange p n) = Unit {0}

accepted-with : (O : Block → Type 0) (e : Entry) (log : List Entry) (blocks : List Accepted) → IsOfNoBlock e → AreAccepted O log blocks → AreAccepted O (e ∷ log) blocks
accepted-with O (Get p n digest source need) log blocks q a = absurd q
accepted-with O (Merge name sources count) log blocks q a = a
accepted-with O (Mutate old name upto count mcount) log blocks q a = a
accepted-with O (Mutation id numbers command) log blocks q a = a
accepted-with O (DropRange p n) log blocks q a = a

-- the log and the values are as they were
pub blocks-stay : (O : Block → Type 0) (old new : Held) → new.schema ≡ old.schema → new.log ≡ old.log → new.values ≡ old.values → HasBlocks O old → HasBlocks O new
blocks-stay O old new schema log values b = record {
  blocks = b.blocks;
  accepted = subst (λ (l : List Entry). AreAccepted O l b.blocks) (sym log) b.accepted;
  counted = values ∙ (b.counted ∙ ap (λ (s : Shape). values_in s b.blocks) (sym schema));
}

-- the log has one more entry, which is no block's
pub blocks-behind : (O : Block → Type 0) (e : Entry) (old new : Held) → IsOfNoBlock e → new.schema ≡ old.schema → new.log ≡ e ∷ old.log → new.values ≡ old.values → HasBlocks O old → HasBlocks O new
blocks-behind O e old new none schema log values b = record {
  blocks = b.blocks;
  accepted = subst (λ (l : List Entry). AreAccepted O l b.blocks) (sym log) (accepted-with O e old.log b.blocks none b.accepted);
  counted = values ∙ (b.counted ∙ ap (λ (s : Shape). values_in s b.blocks) (sym schema));
}

-- the log has the Get of one more block, and the table has its values too
pub blocks-more : (O : Block → Type 0) (b : Block) (n source need : ℕ) (old new : Held) → O b → new.schema ≡ old.schema → new.log ≡ Get b.partition n b.digest source need ∷ old.log → new.values ≡ old.values + values_of old.schema b.rows → HasBlocks O old → HasBlocks O new
blocks-more O b n source need old new offered schema log values h = record {
  blocks = accepted ∷ h.blocks;
  accepted = subst (λ (l : List Entry). AreAccepted O l (accepted ∷ h.blocks)) (sym log) (record { block = b; offered = offered; partition = refl; same_id = refl; accepted = refl }, h.accepted);
  counted = values ∙ (sum ∙ ap (λ (s : Shape). values_in s (accepted ∷ h.blocks)) (sym schema));
}
  where
    accepted : Accepted
    accepted = record { partition = b.partition; number = n; rows = b.rows }

    sum : old.values + values_of old.schema b.rows ≡ values_of old.schema b.rows + values_in old.schema h.blocks
    sum = let c = h.counted in omega (arith, c)

-- ---- several tables

-- one table in place of another
pub blocks-set : (O : ℕ → Block → Type 0) (tables : List Held) (k : ℕ) (old new : Held) → k < length tables → old ≡ get_or tables k old → (HasBlocks (O k) old → HasBlocks (O k) new) → HaveBlocks O tables → HaveBlocks O (set tables k new)
blocks-set O [] k old new h at f b = absurd (omega (arith, h))
blocks-set O (x ∷ xs) zero old new h at f b = (f (subst (HasBlocks (O 0)) (sym at) b.0), b.1)
blocks-set O (x ∷ xs) (suc k) old new h at f b = (b.0, blocks-set (λ i. O (suc i)) xs k old new (omega (arith, h)) at f b.1)

-- those of the table at a place
pub blocks-at : (O : ℕ → Block → Type 0) (tables : List Held) (k : ℕ) (h : Held) → k < length tables → h ≡ get_or tables k h → HaveBlocks O tables → HasBlocks (O k) h
blocks-at O [] k h l at b = absurd (omega (arith, l))
blocks-at O (x ∷ xs) zero h l at b = subst (HasBlocks (O 0)) (sym at) b.0
blocks-at O (x ∷ xs) (suc k) h l at b = blocks-at (λ i. O (suc i)) xs k h (omega (arith, l)) at b.1
