-- What is taken out of a replica of a table is of that table, and so is the part that comes of it.
use Rattle.std.proofs.Common.{◌≡◌, ℕ, ◌+◌, Bool, true, false, cond, List, [], ◌∷◌, ◌++◌, map, sym, subst, ◌∙◌}
use Rattle.std.specs.Prelude.{IfSome, MatchOption}
use Rattle.std.specs.Map.{lookup}
use Rattle.std.specs.Arc.{arc_value}
use Rattle.std.specs.declared.option.Option.{Option}
use Rattle.std.specs.declared.option.Option.TheVariants.{Some, None}
use Rattle.rmt_values.specs.Rows.{Shape}
use Rattle.rmt_names.specs.Names.{Name}
use Rattle.rmt_entries.specs.declared.entry.Entry.{Entry}
use Rattle.rmt_entries.specs.declared.entry.Entry.TheVariants.{Get, Merge, Mutate, Mutation, DropRange}
use Rattle.rmt_row.specs.Token.{Token, IsOf}
use Rattle.rmt_block.specs.Blocks.{BlockView}
use Rattle.rmt_model.specs.Words.{Has, Each}
use Rattle.rmt_model.proofs.Lists.{Each-at}
use Rattle.rmt_events.specs.Views.{Block}
use Rattle.rmt_events.specs.Clusters.{without_kinds}
use Rattle.rmt_history.proofs.RowLemmas.{cell-of-row}
use Rattle.rmt_part.specs.Lineages.{AcceptedView, PartValue}
use Rattle.rmt_part.specs.CellRows.{IsPartOfRow}
use Rattle.rmt_compact.specs.NewParts.{IsOfBlock, IsMergeOf, IsMerged, IsMutated, blocks_joined}
use Rattle.rmt_compact.proofs.RowParts.{block-of-row, merged-of-row, tokens-of-row}
use Rattle.std.specs.BTreeMap.{is_at}
use Rattle.rmt_replica.specs.StagedBlocks.{number_cmp}
use Rattle.rmt_replica.specs.Parts.{IsMadeIn}
use Rattle.rmt_replica.specs.Replicas.{ReplicaView, IsStandingReplica, copy_of}
use Rattle.rmt_replica.specs.Supplies.{supplied}
use Rattle.rmt_replica.specs.declared.supply.Supply.{Supply}
use Rattle.rmt_supply.specs.PartSources.{IsAccepted, staged_for}
use Rattle.rmt_supply.specs.TakenParts.{IsTokenAt, IsTaken, IsHeld, CanBuild, HasAccepted, BuildsPart, CanSend, SendsPart, IsSupplyOf}
use Rattle.rmt_supply.specs.declared.taken.Taken.{Taken}
use Rattle.rmt_supply.specs.declared.taken.Taken.TheVariants as taken
use Rattle.rmt_supply.specs.declared.held.Held.{Held}
use Rattle.rmt_supply.specs.declared.held.Held.TheVariants as held
use Rattle.rmt_shared.specs.SharedTables.{NamedTable, name_at}
use Rattle.rmt_shared.specs.SharedReplicas.{SharedReplicaView, IsSharedReplica, IsMadeOf, FitsColumns}
use Rattle.rmt_shared.specs.ReplicaSupplies.{IsBlockOfNamed, IsPartOfNamed, IsTakenFrom, IsHeldFrom, IsWhole, SuppliesBuilt, IsWholeHeld, HasFewRows}

-- ---- lists

Each-append : {A : Type 0} (P : A → Type 0) (xs ys : List A) → Each P xs → Each P ys → Each P (xs ++ ys)
Each-append P [] ys f g = g
Each-append P (x ∷ xs) ys f g = (f.0, Each-append P xs ys f.1 g)

Each-within : {A : Type 0} (P Q : A → Type 0) (xs : List A) → ((x : A) → P x → Q x) → Each P xs → Each Q xs
Each-within P Q [] f g = tt
Each-within P Q (x ∷ xs) f g = (f x g.0, Each-within P Q xs f g.1)

each-lookup : {K V : Type 0} (P : V → Type 0) (test : K → Bool) (es : List (K × V)) (x : V) → Each (λ z. P z.1) es → lookup test es ≡ Some x → P x
each-lookup P test [] x f q = absurd (cc)
each-lookup {K} {V} P test (e ∷ es) x f q = go (test e.0) (each-lookup P test es x f.1) q
  where
    go : (b : Bool) → (lookup test es ≡ Some x → P x) → cond b (Some e.1) (lookup test es) ≡ Some x → P x
    go true rest h = let s : e.1 ≡ x = cc in subst P s f.0
    go false rest h = rest h

some-within : {A : Type 0} (P Q : A → Type 0) (o : Option A) → ((x : A) → P x → Q x) → IfSome o P → IfSome o Q
some-within P Q None f h = tt
some-within P Q (Some x) f h = f x h

-- ---- taken

-- a block that is staged for an entry
staged-one : (P : BlockView → Type 0) (r : ReplicaView) (e : Entry) (b : BlockView) → Each (λ z. P z.1) r.staged → staged_for r e ≡ Some b → P b
staged-one P r (Get p n digest source need) b f q = each-lookup P (is_at (number_cmp (record { partition = p; number = n }))) r.staged b f q
staged-one P r (Merge new sources count) b f q = absurd (cc)
staged-one P r (Mutate old new upto count mcount) b f q = absurd (cc)
staged-one P r (Mutation id numbers command) b f q = absurd (cc)
staged-one P r (DropRange p n) b f q = absurd (cc)

module _ (names : List NamedTable) (replicas : ℕ) (Offered : ℕ → Block → Type 0) (s : SharedReplicaView) (is : IsSharedReplica names replicas Offered s) where
  staged-named : (e : Entry) (b : BlockView) → staged_for s.replica e ≡ Some b → IsBlockOfNamed (name_at names s.table) (Offered s.table) b
  staged-named e b q = record {
    offered = staged-one (λ x. Offered s.table (without_kinds x)) s.replica e b is.blocks.staged q;
    fit = staged-one (FitsColumns (name_at names s.table).schema) s.replica e b is.fitting q;
  }

  part-named : (part : PartValue) → IsStandingReplica s.replica → Has s.replica.parts part → IsPartOfNamed (name_at names s.table) (Offered s.table) part
  part-named part standing h = record {
    schema = (Each-at (IsMadeIn s.replica.schema s.replica.log) s.replica.parts part standing.made h).of_schema ∙ is.schema;
    row = Each-at (IsPartOfRow (name_at names s.table).row) s.replica.parts part is.row.parts h;
    made_of = Each-at (IsMadeOf (Offered s.table)) s.replica.parts part is.blocks.parts h;
  }

  token-named : (i : ℕ) (token : Token Entry) → IsTokenAt s.replica i token → IsOf (name_at names s.table).row token
  token-named i token t =
      subst (λ (n : ℕ). IsOf (name_at names s.table).row (record token { place = n })) (sym t.place)
      (cell-of-row (name_at names s.table).row (copy_of s.replica) i token.cell is.row.copy t.cell)

  -- what was taken for an entry
  pub taken-from : (i : ℕ) (t : Taken) → IsStandingReplica s.replica → IsTaken s.replica i t → IsTakenFrom (name_at names s.table) (Offered s.table) t
  taken-from i taken.Nothing standing h = tt
  taken-from i (taken.Block block get) standing h = (token-named i get h.token, staged-named get.value (arc_value block) h.staged)
  taken-from i (taken.Sources sources merge) standing h = (token-named i merge h.token, Each-within (Has s.replica.parts) (IsPartOfNamed (name_at names s.table) (Offered s.table)) (map arc_value sources.items) (λ part x. part-named part standing x) h.active)
  taken-from i (taken.Old old mutations mutate) standing h =
      (token-named i mutate h.token, part-named (arc_value old) standing h.active, tokens-of-row (name_at names s.table).row (copy_of s.replica) (h.upto + 1) (arc_value mutations) is.row.copy h.below.places)
  taken-from i (taken.Missing a) standing h = tt

  -- what was taken for a Get of another replica
  pub held-from : (token : Token Entry) (a : Name) (len : ℕ) (h : Option Held) → IsStandingReplica s.replica → IsOf (name_at names s.table).row token → IsHeld s.replica token a len h → IfSome h (IsHeldFrom (name_at names s.table) (Offered s.table))
  held-from token a len None standing of h = tt
  held-from token a len (Some (held.Part part)) standing of h = part-named (arc_value part) standing h.is_in
  held-from token a len (Some (held.Block block get)) standing of h = (subst (IsOf (name_at names s.table).row) (sym h.copied) of, staged-named token.value (arc_value block) h.staged)

-- ---- built

-- a block that was taken is the one that its entry accepted, where it is its Get's
pub taken-accepted : (name : NamedTable) (Offered : Block → Type 0) (schema : Shape) (t : Taken) → schema ≡ name.schema → IsTakenFrom name Offered t → IsWhole t → HasAccepted schema t
taken-accepted name Offered schema taken.Nothing q f w = tt
taken-accepted name Offered schema (taken.Block block get) q f w = subst (λ (z : Shape). IsAccepted z get.value (arc_value block)) (sym q) (record { gets = w; fit = f.1.fit })
taken-accepted name Offered schema (taken.Sources sources merge) q f w = tt
taken-accepted name Offered schema (taken.Old old mutations mutate) q f w = tt
taken-accepted name Offered schema (taken.Missing a) q f w = tt

module _ (name : NamedTable) (Offered : Block → Type 0) where
  block-named : (schema : Shape) (get : Token Entry) (b : BlockView) (part : PartValue) → schema ≡ name.schema → IsOf name.row get → IsBlockOfNamed name Offered b → IsOfBlock schema get b part → IsPartOfNamed name Offered part
  block-named schema get b part q of f is = record {
    schema = is.schema ∙ q;
    row = block-of-row name.row schema get b part is of;
    made_of = subst (Each (λ (x : AcceptedView). Offered (without_kinds x.block))) (sym is.blocks) (f.offered, tt);
  }

  joined-made : (parts : List PartValue) → Each (IsPartOfNamed name Offered) parts → Each (λ (x : AcceptedView). Offered (without_kinds x.block)) (blocks_joined parts)
  joined-made [] f = tt
  joined-made (part ∷ parts) f = Each-append (λ (x : AcceptedView). Offered (without_kinds x.block)) part.blocks (blocks_joined parts) f.0.made_of (joined-made parts f.1)

  merged-schema : (merge : Token Entry) (parts : List PartValue) (part : PartValue) → IsMergeOf merge parts → Each (IsPartOfNamed name Offered) parts → IsMerged merge parts part → part.schema ≡ name.schema
  merged-schema merge [] part can f is = absurd can.lawful.1
  merged-schema merge (p ∷ parts) part can f is = sym is.schemas.0 ∙ f.0.schema

  merged-named : (merge : Token Entry) (parts : List PartValue) (part : PartValue) → IsMergeOf merge parts → IsOf name.row merge → Each (IsPartOfNamed name Offered) parts → IsMerged merge parts part → IsPartOfNamed name Offered part
  merged-named merge parts part can of f is = record {
    schema = merged-schema merge parts part can f is;
    row = merged-of-row name.row merge parts part is of (Each-within (IsPartOfNamed name Offered) (IsPartOfRow name.row) parts (λ p x. x.row) f);
    made_of = subst (Each (λ (x : AcceptedView). Offered (without_kinds x.block))) (sym is.blocks) (joined-made parts f);
  }

  mutated-named : (mutate : Token Entry) (old : PartValue) (mutations : List (Token Entry)) (part : PartValue) → IsOf name.row mutate → IsPartOfNamed name Offered old → Each (IsOf name.row) mutations → IsMutated mutate old mutations part → IsPartOfNamed name Offered part
  mutated-named mutate old mutations part of f tokens is = record {
    schema = is.schema ∙ f.schema;
    row = record {
      made = subst (IsOf name.row) (sym is.made) of;
      blocks = subst (Each (λ (x : AcceptedView). IsOf name.row x.get)) (sym is.blocks) f.row.blocks;
      mutations = subst (Each (IsOf name.row)) (sym is.mutations) tokens;
    };
    made_of = subst (Each (λ (x : AcceptedView). Offered (without_kinds x.block))) (sym is.blocks) f.made_of;
  }

  -- where one is built, it is of the table
  built-some : (P : PartValue → Type 0) (o : Option PartValue) → ((part : PartValue) → P part → IsPartOfNamed name Offered part) → MatchOption o ⊥ P → IfSome o (IsPartOfNamed name Offered)
  built-some P None f b = absurd b
  built-some P (Some part) f b = f part b

  built-part : (schema : Shape) (t : Taken) (o : Option PartValue) → schema ≡ name.schema → CanBuild t → IsTakenFrom name Offered t → BuildsPart schema t o → IfSome o (IsPartOfNamed name Offered)
  built-part schema taken.Nothing o q can f b = subst (λ (x : Option PartValue). IfSome x (IsPartOfNamed name Offered)) (sym b) tt
  built-part schema (taken.Block block get) o q can f b = built-some (IsOfBlock schema get (arc_value block)) o (λ part is. block-named schema get (arc_value block) part q f.0 f.1 is) b
  built-part schema (taken.Sources sources merge) o q can f b = built-some (IsMerged merge (map arc_value sources.items)) o (λ part is. merged-named merge (map arc_value sources.items) part can f.0 f.1 is) b
  built-part schema (taken.Old old mutations mutate) o q can f b = built-some (IsMutated mutate (arc_value old) (arc_value mutations)) o (λ part is. mutated-named mutate (arc_value old) (arc_value mutations) part f.0 f.1 f.2 is) b
  built-part schema (taken.Missing a) o q can f b = subst (λ (x : Option PartValue). IfSome x (IsPartOfNamed name Offered)) (sym b) tt

  -- the part that is supplied is of the table
  supplied-named : (schema : Shape) (t : Taken) (part : Option PartValue) (supply : Supply) → schema ≡ name.schema → CanBuild t → IsTakenFrom name Offered t → BuildsPart schema t part → supplied supply ≡ part → IfSome (supplied supply) (IsPartOfNamed name Offered)
  supplied-named schema t part supply q can f b e = subst (λ (x : Option PartValue). IfSome x (IsPartOfNamed name Offered)) (sym e) (built-part schema t part q can f b)

  -- it is what an install asks for
  pub supplied-schema : (schema : Shape) (t : Taken) (part : Option PartValue) (supply : Supply) → schema ≡ name.schema → CanBuild t → IsTakenFrom name Offered t → BuildsPart schema t part → supplied supply ≡ part → IfSome (supplied supply) (λ p. p.schema ≡ name.schema)
  supplied-schema schema t part supply q can f b e = some-within (IsPartOfNamed name Offered) (λ p. p.schema ≡ name.schema) (supplied supply) (λ p h. h.schema) (supplied-named schema t part supply q can f b e)

  pub supplied-row : (schema : Shape) (t : Taken) (part : Option PartValue) (supply : Supply) → schema ≡ name.schema → CanBuild t → IsTakenFrom name Offered t → BuildsPart schema t part → supplied supply ≡ part → IfSome (supplied supply) (IsPartOfRow name.row)
  supplied-row schema t part supply q can f b e = some-within (IsPartOfNamed name Offered) (IsPartOfRow name.row) (supplied supply) (λ p h. h.row) (supplied-named schema t part supply q can f b e)

  pub supplied-made : (schema : Shape) (t : Taken) (part : Option PartValue) (supply : Supply) → schema ≡ name.schema → CanBuild t → IsTakenFrom name Offered t → BuildsPart schema t part → supplied supply ≡ part → IfSome (supplied supply) (IsMadeOf Offered)
  supplied-made schema t part supply q can f b e = some-within (IsPartOfNamed name Offered) (IsMadeOf Offered) (supplied supply) (λ p h. h.made_of) (supplied-named schema t part supply q can f b e)

  -- ---- sent

  -- what was taken can be sent
  pub can-send : (schema : Shape) (h : Held) → schema ≡ name.schema → IsHeldFrom name Offered h → IsWholeHeld h → HasFewRows h → CanSend schema h
  can-send schema (held.Part part) q f w few = few
  can-send schema (held.Block block get) q f w few = subst (λ (z : Shape). IsAccepted z get.value (arc_value block)) (sym q) (record { gets = w; fit = f.1.fit })

  -- the part that comes of it is of the table
  pub sent-named : (schema : Shape) (h : Held) (part : PartValue) → schema ≡ name.schema → IsHeldFrom name Offered h → SendsPart schema h part → IsPartOfNamed name Offered part
  sent-named schema (held.Part held_part) part q f b = subst (IsPartOfNamed name Offered) (sym b) f
  sent-named schema (held.Block block get) part q f b = block-named schema get (arc_value block) part q f.0 f.1 b

-- the supply of what was built
pub supplies-built : (schema : Shape) (t : Taken) (part : Option PartValue) (supply : Supply) → IsWhole t → BuildsPart schema t part → IsSupplyOf part supply → supplied supply ≡ part → SuppliesBuilt schema t supply
supplies-built schema t part supply w b k e = record {
  whole = w;
  builds = subst (BuildsPart schema t) (sym e) b;
  kind = subst (λ (x : Option PartValue). IsSupplyOf x supply) (sym e) k;
}
