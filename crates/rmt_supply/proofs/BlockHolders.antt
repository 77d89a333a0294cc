-- Who holds the block of a Get.
use Rattle.std.proofs.Common.{◌≡◌, ℕ, zero, suc, ◌+◌, ◌<◌, ◌≤◌, ◌^◌, ◌⊎◌, inl, inr, true, false, List, [], ◌∷◌, length, map, refl, sym, ap, subst, ◌∙◌, arith, rules, below_more, Bor}
use Rattle.std.specs.Prelude.{slice_get, is_some, IfSome, IsSome, MatchOption}
use Rattle.std.specs.Option.{option_map}
use Rattle.std.specs.declared.option.Option.{Option}
use Rattle.std.specs.declared.option.Option.TheVariants.{Some, None}
use Rattle.rmt_values.specs.Rows.{Shape}
use Rattle.rmt_names.specs.Names.{Name, Covers, Overlap, block_name}
use Rattle.rmt_entries.specs.Entries.{result_name}
use Rattle.rmt_entries.specs.declared.entry.Entry.{Entry}
use Rattle.rmt_entries.specs.declared.entry.Entry.TheVariants.{Get}
use Rattle.rmt_row.specs.Token.{Token}
use Rattle.rmt_block.specs.Blocks.{BlockView}
use Rattle.rmt_model.specs.Words.{Has, Pairwise}
use Rattle.rmt_model.specs.Live.{Before}
use Rattle.rmt_model.specs.Lawful.{entry_at, IsPrefix}
use Rattle.rmt_model.specs.CopiedParts.{Copied, IsCopied}
use Rattle.rmt_model.proofs.Lists.{Each-at}
use Rattle.rmt_model.proofs.LiveLaws.{Pairwise-cases, not-both}
use Rattle.rmt_model.proofs.Drops.{some-same, entry-below}
use Rattle.std.specs.Arc.{arc_value}
use Rattle.rmt_part.specs.Lineages.{PartValue}
use Rattle.rmt_part.specs.CopiedPart.{copied}
use Rattle.rmt_part.proofs.PartLaws.{of-log-longer, of-log-prefix}
use Rattle.rmt_partset.specs.ActiveParts.{part_names, IsCovering}
use Rattle.rmt_partset.proofs.PartLists.{Pairwise-along}
use Rattle.rmt_replica.specs.Parts.{IsMadeIn}
use Rattle.rmt_replica.specs.StagedBlocks.{staged_at}
use Rattle.rmt_replica.specs.Replicas.{ReplicaView, IsStandingReplica}
use Rattle.rmt_replica.specs.SeenReplica.{shown}
use Rattle.rmt_replica.proofs.StagedViews.{found, missing}
use Rattle.rmt_events.specs.Views.{Replica}
use Rattle.rmt_events.specs.Clusters.{Cluster, without_kinds}
use Rattle.rmt_events.specs.ClusterChanges.{IsOther}
use Rattle.rmt_events.specs.ApplyEvents.{IsHolder, LacksBlock, LacksPart, NeedsFetch, MayFetch}
use Rattle.rmt_events.proofs.Copies.{entry-behind}
use Rattle.rmt_supply.specs.PartSources.{staged_for, IsAccepted, AreOfOneTable, HasSmallParts, IsClusterOf, Does, IsFetchedPart, WaitsForBlock, IsGetFor, HoldsPart, HoldsNothing, HoldsSome, IsOfStaged, IsSent, IsNowhere, IsMissing, IsStopped}
use Rattle.rmt_supply.specs.declared.held.Held.{Held}
use Rattle.rmt_supply.specs.declared.held.Held.TheVariants as held
use Rattle.rmt_supply.specs.TakenParts.{IsHeld, CanSend}
use Rattle.rmt_supply.proofs.StagedParts.{of-table, staged-seen, block-does}

-- ---- active parts that cover one name

-- of parts that are apart only one covers a name
one-part : (parts : List PartValue) (a : Name) (p q : PartValue) → Pairwise Before (part_names parts) → a.min ≤ a.max → Has parts p → Has parts q → Covers p.name a → Covers q.name a → p ≡ q
one-part parts a p q apart m h k c d = elim (Pairwise-cases (λ (x y : PartValue). Before x.name y.name) parts p q (Pairwise-along (λ (x : PartValue). x.name) Before parts apart) h k) [
  | inl e ↦ e
  | inr o ↦ absurd (elim o [ inl b ↦ not-both p.name q.name b (both p.name q.name c d) | inr b ↦ not-both q.name p.name b (both q.name p.name d c) ])
]
  where
    both : (x y : Name) → Covers x a → Covers y a → Overlap x y
    both x y c d =
        let u = c.min in let v = d.max in let s = d.min in let t = c.max in
        record { partition = c.partition ∙ sym d.partition; low = omega (arith, u, m, v); high = omega (arith, s, m, t) }

has-name : (parts : List PartValue) (p : PartValue) → Has parts p → Has (part_names parts) p.name
has-name [] p h = absurd h
has-name (q ∷ parts) p (inl e) = inl (ap (λ (x : PartValue). x.name) e)
has-name (q ∷ parts) p (inr h) = inr (has-name parts p h)

-- the name of a block is of one number
pub sized : (token : Token Entry) (a : Name) → IsGetFor token a → a.min ≤ a.max
sized token a g =
    let p = ap (λ (n : Name). n.min) g.named in
    let q = ap (λ (n : Name). n.max) g.named in
    omega (arith, p, q)

-- where no active part covers the name, none does that was made within a length
pub none-within : (r : ReplicaView) (a : Name) (len : ℕ) → ((n : Name) → Has (part_names r.parts) n → Covers n a → ⊥) → (part : PartValue) → HoldsPart r a len part → ⊥
none-within r a len f part h = f part.name (has-name r.parts part h.is_in) h.covers

-- nor where the one that covers it was made later
pub later-covers : (r : ReplicaView) (a : Name) (len : ℕ) (p : PartValue) → IsStandingReplica r → a.min ≤ a.max → IsCovering r.parts a p → len ≤ p.made.place → (part : PartValue) → HoldsPart r a len part → ⊥
later-covers r a len p s m c l part h =
    let e = ap (λ (x : PartValue). x.made.place) (one-part r.parts a part p s.fair.apart m h.is_in c.is_in h.covers c.covers) in
    let w = h.within in
    omega (arith, l, e, w)

-- ---- what a holder has

-- an active part of a holder is small, where all of them are
pub held-small : (holder : ReplicaView) (a : Name) (len : ℕ) (part : PartValue) → HasSmallParts holder → HoldsPart holder a len part → length part.body.rows < 2 ^ 32
held-small holder a len part small h = Each-at (λ p. length p.body.rows < 2 ^ 32) holder.parts part small h.is_in

-- what was taken out of it can be sent
pub can-send : (schema : Shape) (holder : ReplicaView) (token : Token Entry) (a : Name) (len : ℕ) (h : Held) → HasSmallParts holder → IfSome (staged_for holder token.value) (IsAccepted schema token.value) → IsHeld holder token a len (Some h) → CanSend schema h
can-send schema holder token a len (held.Part part) small k h = held-small holder a len (arc_value part) small h
can-send schema holder token a len (held.Block block get) small k h =
    subst (λ (t : Token Entry). IsAccepted schema t.value (arc_value block)) (sym h.copied) (subst (λ (o : Option BlockView). IfSome o (IsAccepted schema token.value)) h.staged k)

-- what it has, where a part comes back
pub holds-part : {P : Type 0} (o : Option P) (p : P) (value : P → PartValue) (schema : Shape) (holder : ReplicaView) (token : Token Entry) (a : Name) (len : ℕ) → o ≡ Some p → IsSent schema holder token a len (option_map value o) → HoldsPart holder a len (value p) ⊎ IsOfStaged schema holder token (value p)
holds-part {P} o p value schema holder token a len e h = subst (λ (v : Option P). IsSent schema holder token a len (option_map value v)) e h

-- a part comes back where it has something
pub held-some : {P : Type 0} (o : Option P) (value : P → PartValue) (schema : Shape) (holder : ReplicaView) (token : Token Entry) (a : Name) (len : ℕ) → IsSent schema holder token a len (option_map value o) → HoldsSome holder token a len → IsSome o
held-some {P} (Some p) value schema holder token a len h k = refl
held-some {P} None value schema holder token a len h (inl k) = absurd (h.no_part k.0 k.1)
held-some {P} None value schema holder token a len h (inr k) = let e = ap is_some h.no_block in absurd (cc)

-- ---- replicas by their places

has-at : (rs : List ReplicaView) (i : ℕ) (x : ReplicaView) → slice_get rs i ≡ Some x → Has rs x
has-at [] i x e = absurd (cc)
has-at (r ∷ rs) zero x e = inl (some-same r x e)
has-at (r ∷ rs) (suc i) x e = inr (has-at rs i x e)

has-shown : (rs : List ReplicaView) (x : ReplicaView) → Has rs x → Has (map shown rs) (shown x)
has-shown [] x h = absurd h
has-shown (r ∷ rs) x (inl e) = inl (ap shown e)
has-shown (r ∷ rs) x (inr h) = inr (has-shown rs x h)

-- a replica that a cluster sees is one of them
record IsSeenAt (rs : List ReplicaView) (y : Replica) : Type 0 where
  pub place : ℕ
  pub replica : ReplicaView
  pub stands : slice_get rs place ≡ Some replica
  pub is : shown replica ≡ y

seen-at : (rs : List ReplicaView) (y : Replica) → Has (map shown rs) y → IsSeenAt rs y
seen-at [] y h = absurd h
seen-at (r ∷ rs) y (inl e) = record { place = 0; replica = r; stands = refl; is = e }
seen-at (r ∷ rs) y (inr h) = let k = seen-at rs y h in record { place = suc k.place; replica = k.replica; stands = k.stands; is = k.is }

-- ---- parts as a cluster sees them

copied-in : (parts : List PartValue) (p : PartValue) → Has parts p → Has (map copied parts) (copied p)
copied-in [] p h = absurd h
copied-in (x ∷ parts) p (inl e) = inl (ap copied e)
copied-in (x ∷ parts) p (inr h) = inr (copied-in parts p h)

in-copied : (parts : List PartValue) (c : Copied) → Has (map copied parts) c → (p : PartValue) × Has parts p × (copied p ≡ c)
in-copied [] c h = absurd h
in-copied (x ∷ parts) c (inl e) = (x, inl refl, e)
in-copied (x ∷ parts) c (inr h) = let k = in-copied parts c h in (k.0, inr k.1, k.2)

-- ---- a Get waits

-- the Get of the token waits at the replica that stands at a place, and makes the name
pub record IsWorker (replicas : List ReplicaView) (at i : ℕ) (x : ReplicaView) (token : Token Entry) (a : Name) : Type 0 where
  pub table : AreOfOneTable replicas i
  pub stands : slice_get replicas at ≡ Some x
  pub standing : IsStandingReplica x
  pub waiting : WaitsForBlock x i
  pub entry : entry_at x.log i ≡ Some token.value
  pub place : token.place ≡ i
  pub get : IsGetFor token a

-- the replica at a place is another one that is up
pub record IsLiveOther (replicas : List ReplicaView) (at j : ℕ) (y : ReplicaView) : Type 0 where
  pub stands : slice_get replicas j ≡ Some y
  pub other : j ≡ at → ⊥
  pub up : y.up ≡ true
  pub standing : IsStandingReplica y

-- of the replicas below a place, no other one that is up has anything for the token's Get
abbrev pub HoldNothingBelow : List ReplicaView → ℕ → ℕ → Token Entry → Name → ℕ → Type 0
HoldNothingBelow replicas at j token a len = (k : ℕ) → k < j → (y : ReplicaView) → slice_get replicas k ≡ Some y → (k ≡ at → ⊥) → y.up ≡ true → IsStandingReplica y × HoldsNothing y token a len

pub one-more : (replicas : List ReplicaView) (at j : ℕ) (token : Token Entry) (a : Name) (len : ℕ) (y : ReplicaView) → HoldNothingBelow replicas at j token a len → slice_get replicas j ≡ Some y → ((j ≡ at → ⊥) → y.up ≡ true → IsStandingReplica y × HoldsNothing y token a len) → HoldNothingBelow replicas at (j + 1) token a len
one-more replicas at j token a len y below e h =
    below_more (λ k. (z : ReplicaView) → slice_get replicas k ≡ Some z → (k ≡ at → ⊥) → z.up ≡ true → IsStandingReplica z × HoldsNothing z token a len) j below
    (λ z f o u. let q : y ≡ z = some-same y z (sym e ∙ f) in subst (λ (v : ReplicaView). IsStandingReplica v × HoldsNothing v token a len) q (h o (ap (λ (v : ReplicaView). v.up) q ∙ u)))

-- ---- what is read of the worker's copy

-- the copy has an entry at the place
pub has-entry : {T : Type 0} (x : ReplicaView) (i : ℕ) (log : List Entry) (o : Option T) (P : T → Type 0) → WaitsForBlock x i → log ≡ x.log → MatchOption o (length log ≤ i) P → IsSome o
has-entry x i log (Some t) P w l m = search rules
has-entry x i log None P w l m =
    let b = entry-below x.log i (Get w.partition w.number w.digest w.source w.need) w.at in
    let e = ap length l in
    absurd (omega (arith, m, b, e))

entry-read : (x : ReplicaView) (i : ℕ) (log : List Entry) (o : Option (Bor (Token Entry))) (t : Bor (Token Entry)) → log ≡ x.log → MatchOption o (length log ≤ i) (λ t. entry_at log i ≡ Some t.now.value) → o ≡ Some t → entry_at x.log i ≡ Some t.now.value
entry-read x i log o t l m e =
    subst (λ (k : List Entry). entry_at k i ≡ Some t.now.value) l (subst (λ (v : Option (Bor (Token Entry))). MatchOption v (length log ≤ i) (λ t. entry_at log i ≡ Some t.now.value)) e m)

-- it is a Get
pub reads-get : (x : ReplicaView) (i : ℕ) (log : List Entry) (o : Option (Bor (Token Entry))) (t : Bor (Token Entry)) (value : Entry) → WaitsForBlock x i → log ≡ x.log → MatchOption o (length log ≤ i) (λ t. entry_at log i ≡ Some t.now.value) → o ≡ Some t → value ≡ t.now.value
    → ((p : Option ℕ) (n : ℕ) (digest : List ℕ) (source need : ℕ) → value ≡ Get p n digest source need → ⊥) → ⊥
reads-get x i log o t value w l m e v none =
    none w.partition w.number w.digest w.source w.need (v ∙ some-same t.now.value (Get w.partition w.number w.digest w.source w.need) (sym (entry-read x i log o t l m e) ∙ w.at))

pub worker : (replicas : List ReplicaView) (at i : ℕ) (x : ReplicaView) (log : List Entry) (o : Option (Bor (Token Entry))) (t : Bor (Token Entry)) (value : Entry) (p : Option ℕ) (n : ℕ) (digest : List ℕ) (source need : ℕ) (a : Name)
    → AreOfOneTable replicas i → slice_get replicas at ≡ Some x → IsStandingReplica x → WaitsForBlock x i → log ≡ x.log → MatchOption o (length log ≤ i) (λ t. entry_at log i ≡ Some t.now.value) → IfSome o (λ t. t.now.place ≡ i) → o ≡ Some t
    → value ≡ t.now.value → value ≡ Get p n digest source need → a ≡ block_name p n → IsWorker replicas at i x t.now a
worker replicas at i x log o t value p n digest source need a table there s w l m k e v is named = record {
  table = table;
  stands = there;
  standing = s;
  waiting = w;
  entry = entry-read x i log o t l m e;
  place = subst (λ (v : Option (Bor (Token Entry))). IfSome v (λ t. t.now.place ≡ i)) e k;
  get = record { partition = p; number = n; source = source; need = need; digest = digest; value = sym v ∙ is; named = named };
}

-- what is staged at any of them for the Get is the block that it accepted
pub accepted : (replicas : List ReplicaView) (at j i : ℕ) (x y : ReplicaView) (token : Token Entry) (a : Name) (schema : Shape) → IsWorker replicas at i x token a → slice_get replicas j ≡ Some y → IsStandingReplica y → x.schema ≡ schema → IfSome (staged_for y token.value) (IsAccepted schema token.value)
accepted replicas at j i x y token a schema w there t q =
    let c = w.table.copies x (has-at replicas at x w.stands) in
    subst (λ (v : Shape). IfSome (staged_for y token.value) (IsAccepted v token.value)) (sym c.0 ∙ q)
    (w.table.accepted y (has-at replicas j y there) t token.value (subst (λ (l : List Entry). entry_at l i ≡ Some token.value) (sym (IsPrefix.is c.1)) (entry-behind (IsPrefix.gained c.1) x.log i token.value w.entry)))

-- ---- no holder

-- no block is staged under a number, as a cluster sees it
pub lacks-block : (x : ReplicaView) (p : Option ℕ) (n : ℕ) → IsStandingReplica x → staged_at x.staged (record { partition = p; number = n }) ≡ None → LacksBlock (shown x) p n
lacks-block x p n s q b h = missing (record { partition = p; number = n }) x.staged s.waiting.own q (record { number = n; block = b }) h.is_in h.partition refl

-- the token is of the Get that waits
get-is : (replicas : List ReplicaView) (at i : ℕ) (x : ReplicaView) (token : Token Entry) (a : Name) (p : Option ℕ) (n source need : ℕ) (digest : List ℕ) → IsWorker replicas at i x token a → entry_at x.log i ≡ Some (Get p n digest source need) → (token.value ≡ Get p n digest source need) × (a ≡ block_name p n)
get-is replicas at i x token a p n source need digest w q =
    let v = some-same token.value (Get p n digest source need) (sym w.entry ∙ q) in
    let g = w.get in
    (v, g.named ∙ some-same (block_name g.partition g.number) (block_name p n) (sym (ap result_name g.value) ∙ ap result_name v))

-- a replica that has nothing for a Get is no holder of its block, as a cluster sees it
no-holder : (y : ReplicaView) (token : Token Entry) (a : Name) (len : ℕ) (p : Option ℕ) (n source need : ℕ) (digest : List ℕ) → IsStandingReplica y → HoldsNothing y token a len → (token.value ≡ Get p n digest source need) × (a ≡ block_name p n) → IsHolder len p n (shown y) → ⊥
no-holder y token a len p n source need digest s h g (inl k) =
    let f = in-copied y.parts k.0 k.1 in
    h.no_part f.0 (record {
      is_in = f.1;
      covers = subst (Covers f.0.name) (sym g.1) (subst (λ (c : Copied). Covers c.name (block_name p n)) (sym f.2) k.2);
      within = subst (λ (c : Copied). c.place < len) (sym f.2) k.3;
    })
no-holder y token a len p n source need digest s h g (inr k) = lacks-block y p n s (subst (λ (e : Entry). staged_for y e ≡ None) g.0 h.no_block) k.0 k.1

-- what is there
some-block : (o : Option BlockView) → IsSome o → (b : BlockView) × (o ≡ Some b)
some-block (Some b) h = (b, refl)
some-block None h = absurd (cc)

pub no-block : (o : Option BlockView) → is_some o ≡ false → o ≡ None
no-block (Some b) e = absurd (cc)
no-block None e = refl

-- one that has something for it is a holder
some-holder : (y : ReplicaView) (token : Token Entry) (a : Name) (len : ℕ) (p : Option ℕ) (n source need : ℕ) (digest : List ℕ) → IsStandingReplica y → HoldsSome y token a len → (token.value ≡ Get p n digest source need) × (a ≡ block_name p n) → IsHolder len p n (shown y)
some-holder y token a len p n source need digest s (inl h) g = inl (copied h.0, copied-in y.parts h.0 h.1.is_in, subst (Covers h.0.name) g.1 h.1.covers, h.1.within)
some-holder y token a len p n source need digest s (inr h) g =
    let b = some-block (staged_for y token.value) h in
    let f = found (record { partition = p; number = n }) y.staged b.0 s.waiting.own (subst (λ (e : Entry). staged_for y e ≡ Some b.0) g.0 b.1) in
    inr (without_kinds b.0, record { is_in = f.0; partition = f.1 })

-- another live replica that a cluster sees holds nothing, where its place is below
not-below : (replicas : List ReplicaView) (at j i : ℕ) (x : ReplicaView) (token : Token Entry) (a : Name) (p : Option ℕ) (n source need : ℕ) (digest : List ℕ) (s : Cluster) (z : Replica) → IsWorker replicas at i x token a → entry_at x.log i ≡ Some (Get p n digest source need) → HoldNothingBelow replicas at j token a (length x.log)
    → IsOther s x.number z → (k : IsSeenAt replicas z) → k.place < j → IsHolder (length x.log) p n z → ⊥
not-below replicas at j i x token a p n source need digest s z w q none o k l h =
    let up = ap (λ (v : Replica). v.up) k.is ∙ o.up in
    let r = none k.place l k.replica k.stands other up in
    no-holder k.replica token a (length x.log) p n source need digest r.0 r.1 (get-is replicas at i x token a p n source need digest w q) (subst (IsHolder (length x.log) p n) (sym k.is) h)
  where
    other : k.place ≡ at → ⊥
    other e =
        let u = w.table.numbered at x w.stands in
        let v = w.table.numbered k.place k.replica k.stands in
        let m = ap (λ (y : Replica). y.number) k.is in
        o.other (omega (arith, u, v, m, e))

within : (rs : List ReplicaView) (i : ℕ) (y : ReplicaView) → slice_get rs i ≡ Some y → i < length rs
within [] i y e = absurd (cc)
within (r ∷ rs) zero y e = omega arith
within (r ∷ rs) (suc i) y e = let m = within rs i y e in omega (arith, m)

-- no other live replica holds the block, where none of them has anything for the Get
pub nowhere : (replicas : List ReplicaView) (at j i : ℕ) (x : ReplicaView) (token : Token Entry) (a : Name) (len : ℕ) → IsWorker replicas at i x token a → len ≡ length x.log → length replicas ≤ j → HoldNothingBelow replicas at j token a len
    → (z : ReplicaView) → slice_get replicas at ≡ Some z → IsNowhere replicas z i
nowhere replicas at j i x token a len w l all none z e = subst (λ (v : ReplicaView). IsNowhere replicas v i) (some-same x z (sym w.stands ∙ e)) (λ p n source need digest q s c y o h.
    let k = seen-at replicas y (subst (λ (rs : List Replica). Has rs y) c.replicas_are o.is_in) in
    let m = within replicas k.place k.replica k.stands in
    not-below replicas at j i x token a p n source need digest s y w q (subst (HoldNothingBelow replicas at j token a) l none) o k (omega (arith, all, m)) h)

-- so its part is missing
pub missing-block : (replicas : List ReplicaView) (at i : ℕ) (x : ReplicaView) (token : Token Entry) (a : Name) → IsWorker replicas at i x token a → IsNowhere replicas x i → IsMissing replicas x i a
missing-block replicas at i x token a w h = record {
  waits = g.waits;
  lacks = λ s c e k. subst (λ (v : Entry). LacksPart s x.number (shown x) v a) (some-same (Get g.partition g.number g.digest g.source g.need) e (sym g.at ∙ k))
      ((get-is replicas at i x token a g.partition g.number g.source g.need g.digest w g.at).1, lacks-block x g.partition g.number w.standing g.none, h g.partition g.number g.source g.need g.digest g.at s c);
}
  where
    g : WaitsForBlock x i
    g = w.waiting

-- ---- the lowest-numbered holder

at-least : (n j : ℕ) → (n < j → ⊥) → j ≤ n
at-least n j f = omega (arith, f)

-- another live replica is one for a cluster
is-other : (replicas : List ReplicaView) (at j i : ℕ) (x y : ReplicaView) (token : Token Entry) (a : Name) → IsWorker replicas at i x token a → IsLiveOther replicas at j y → (s : Cluster) → IsClusterOf x.schema replicas s → IsOther s x.number (shown y)
is-other replicas at j i x y token a w o s c = record {
  is_in = subst (λ (rs : List Replica). Has rs (shown y)) (sym c.replicas_are) (has-shown replicas y (has-at replicas j y o.stands));
  up = o.up;
  other = λ e. let u = w.table.numbered at x w.stands in let v = w.table.numbered j y o.stands in o.other (omega (arith, u, v, e));
}

-- a replica may fetch from the first that has anything
may-fetch : (replicas : List ReplicaView) (at j i : ℕ) (x y : ReplicaView) (token : Token Entry) (a : Name) → IsWorker replicas at i x token a → x.fetches ≡ true → IsLiveOther replicas at j y → HoldNothingBelow replicas at j token a (length x.log) → (s : Cluster) → IsClusterOf x.schema replicas s → MayFetch s (shown x) i (shown y)
may-fetch replicas at j i x y token a w allowed o none s c = record {
  partition = g.partition;
  number = g.number;
  source = g.source;
  need = g.need;
  digest = g.digest;
  entry = g.at;
  own = lacks-block x g.partition g.number w.standing g.none;
  allowed = allowed;
  other = is-other replicas at j i x y token a w o s c;
  lowest = λ z oz h.
      let k = seen-at replicas z (subst (λ (rs : List Replica). Has rs z) c.replicas_are oz.is_in) in
      let n = w.table.numbered k.place k.replica k.stands in
      let m = ap (λ (v : Replica). v.number) k.is in
      let l = at-least k.place j (λ b. not-below replicas at j i x token a g.partition g.number g.source g.need g.digest s z w g.at none oz k b h) in
      omega (arith, v, n, m, l);
}
  where
    g : WaitsForBlock x i
    g = w.waiting

    v : y.number ≡ 1 + j
    v = w.table.numbered j y o.stands

-- its active part does the Get
active-does : (replicas : List ReplicaView) (at j i : ℕ) (x y : ReplicaView) (token : Token Entry) (a : Name) (part : PartValue) → IsWorker replicas at i x token a → IsLiveOther replicas at j y → HoldsPart y a (length x.log) part → Does x i part
active-does replicas at j i x y token a part w o h =
    let m = Each-at (IsMadeIn y.schema y.log) y.parts part o.standing.made h.is_in in
    let u = w.table.copies x (has-at replicas at x w.stands) in
    let v = w.table.copies y (has-at replicas j y o.stands) in
    record {
      waits = w.waiting.waits;
      name = a;
      makes = record { entry = token.value; stands = w.entry; makes = ap result_name w.get.value ∙ ap (λ (n : Name). Some n) (sym w.get.named) };
      covers = h.covers;
      within = h.within;
      of_table = record {
        of_schema = m.of_schema ∙ (v.0 ∙ sym u.0);
        agrees = of-table part x.log (of-log-prefix part x.log w.table.log m.is_part u.1 h.within (of-log-longer part y.log w.table.log v.1 m.of_log));
      };
    }

-- what it has does the Get, and is what the replica may fetch
fetched : (replicas : List ReplicaView) (at j i : ℕ) (x y : ReplicaView) (token : Token Entry) (a : Name) (part : PartValue) → IsWorker replicas at i x token a → x.fetches ≡ true → IsLiveOther replicas at j y → HoldNothingBelow replicas at j token a (length x.log)
    → HoldsPart y a (length x.log) part ⊎ IsOfStaged x.schema y token part → Does x i part × (x.fetches ≡ true) × IsFetchedPart replicas x i part
fetched replicas at j i x y token a part w allowed o none (inl h) = (
  active-does replicas at j i x y token a part w o h,
  allowed,
  λ s c. inl (record { from = shown y; may = may-fetch replicas at j i x y token a w allowed o none s c; is_in = copied-in y.parts part h.is_in; within = h.within }),
)
fetched replicas at j i x y token a part w allowed o none (inr h) =
    let k = staged-seen x y i token part w.standing o.standing w.entry w.place h in (
      block-does x y i token part w.entry w.place h w.waiting.waits,
      allowed,
      λ s c. inr (record {
        from = shown y;
        may = may-fetch replicas at j i x y token a w allowed o none s c;
        block = k.block;
        number = k.number;
        staged = k.staged;
        is = k.is;
        holds = subst (λ (v : Shape). IsCopied v x.log (copied part)) (sym c.schema_is) k.holds;
      }),
    )

-- the same, where the length of the copy and the schema are known by equations
pub fetches : (replicas : List ReplicaView) (at j i : ℕ) (x y : ReplicaView) (token : Token Entry) (a : Name) (len : ℕ) (schema : Shape) (part : PartValue) → IsWorker replicas at i x token a → x.fetches ≡ true → IsLiveOther replicas at j y → len ≡ length x.log → x.schema ≡ schema → HoldNothingBelow replicas at j token a len
    → HoldsPart y a len part ⊎ IsOfStaged schema y token part → (z : ReplicaView) → slice_get replicas at ≡ Some z → Does z i part × (z.fetches ≡ true) × IsFetchedPart replicas z i part
fetches replicas at j i x y token a len schema part w allowed o l q none h z e =
    subst (λ (v : ReplicaView). Does v i part × (v.fetches ≡ true) × IsFetchedPart replicas v i part) (some-same x z (sym w.stands ∙ e))
    (fetched replicas at j i x y token a part w allowed o (subst (HoldNothingBelow replicas at j token a) l none)
    (subst (λ n. HoldsPart y a n part ⊎ IsOfStaged x.schema y token part) l (subst (λ (v : Shape). HoldsPart y a len part ⊎ IsOfStaged v y token part) (sym q) h)))

-- a replica that may not fetch is stopped where another has anything
pub stops : (replicas : List ReplicaView) (at j i : ℕ) (x y : ReplicaView) (token : Token Entry) (a : Name) (len : ℕ) → IsWorker replicas at i x token a → x.fetches ≡ false → IsLiveOther replicas at j y → len ≡ length x.log → HoldsSome y token a len → IsStopped replicas x i
stops replicas at j i x y token a len w f o l h = record {
  waits = g.waits;
  stopped = f;
  needs = λ s c e k. subst (NeedsFetch s x.number (shown x)) (some-same (Get g.partition g.number g.digest g.source g.need) e (sym g.at ∙ k))
      (lacks-block x g.partition g.number w.standing g.none, shown y, is-other replicas at j i x y token a w o s c, subst (λ n. IsHolder n g.partition g.number (shown y)) l holder);
}
  where
    g : WaitsForBlock x i
    g = w.waiting

    holder : IsHolder len g.partition g.number (shown y)
    holder = some-holder y token a len g.partition g.number g.source g.need g.digest o.standing h (get-is replicas at i x token a g.partition g.number g.source g.need g.digest w g.at)
