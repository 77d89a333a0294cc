-- Parts that a replica makes of its own active parts: what they are made of, and that they do their entry.
use Rattle.std.proofs.Common.{◌≡◌, ℕ, zero, suc, ◌+◌, ◌<◌, ◌≤◌, inl, inr, Bool, true, false, cond, nat_le, List, [], ◌∷◌, ◌++◌, length, map, take, get_or, refl, sym, ap, subst, arith, ◌∙◌, append_assoc}
use Rattle.std.specs.Prelude.{MatchOption}
use Rattle.std.proofs.lemmas.List.{map-append}
use Rattle.std.specs.declared.option.Option.{Option}
use Rattle.std.specs.declared.option.Option.TheVariants.{Some}
use Rattle.rmt_values.specs.Rows.{Shape}
use Rattle.rmt_names.specs.Names.{Name, Covers}
use Rattle.rmt_entries.specs.Entries.{result_name}
use Rattle.rmt_entries.specs.declared.entry.Entry.{Entry}
use Rattle.rmt_entries.specs.declared.entry.Entry.TheVariants.{Merge, Mutate}
use Rattle.rmt_row.specs.Token.{Token}
use Rattle.rmt_model.specs.Words.{Has, Each, Pairwise}
use Rattle.rmt_model.specs.Live.{made, made_with}
use Rattle.rmt_model.specs.Lawful.{Lawful, IsMutate, entry_at, IsPrefix, MakesAt}
use Rattle.rmt_model.specs.Laws.{Supersedes}
use Rattle.rmt_model.specs.Parts.{NumberedBlock}
use Rattle.rmt_model.specs.CopiedParts.{Copied, IsCopied}
use Rattle.rmt_model.proofs.Lists.{Has-append, Each-at, Each-all}
use Rattle.rmt_model.proofs.LiveLaws.{Covers-refl, Covers-antisym, tight, source-live, later-covers}
use Rattle.rmt_model.proofs.VersionLaws.{live-made, made-sized}
use Rattle.rmt_model.proofs.Drops.{some-same, entry-below, entry-cases}
use Rattle.rmt_nameset.specs.NameSets.{AreApart}
use Rattle.rmt_history.specs.Mutations.{mutations_below, IsTokenBelow, AreTokensBelow}
use Rattle.rmt_part.specs.Lineages.{AcceptedView, PartValue, numbered, IsPart, StandsIn, IsOfLog, AgreesWith}
use Rattle.rmt_part.specs.CopiedPart.{copied}
use Rattle.rmt_part.proofs.PartLaws.{of-log-prefix}
use Rattle.rmt_partset.specs.ActiveParts.{part_names, IsCovering}
use Rattle.rmt_partset.proofs.PartLists.{named-so}
use Rattle.rmt_compact.specs.NewParts.{blocks_joined, most_tokens, IsMergeOf, IsMerged, IsMutateOf, IsMutated}
use Rattle.rmt_compact.proofs.GatheredLemmas.{take-next, take-whole}
use Rattle.rmt_compact.proofs.MergeLaws.{source-partition}
use Rattle.rmt_events.specs.Clusters.{Cluster}
use Rattle.rmt_events.specs.ApplyEvents.{HasSources, IsFromParts}
use Rattle.rmt_events.proofs.Copies.{lawful-behind, made-behind}
use Rattle.rmt_events.proofs.Drains.{CutAt, cut-at}
use Rattle.rmt_replica.specs.Parts.{IsMadeIn}
use Rattle.rmt_replica.specs.Replicas.{ReplicaView, IsStandingReplica, copy_of}
use Rattle.rmt_replica.specs.Answers as own
use Rattle.rmt_replica.specs.SeenReplica.{shown}
use Rattle.rmt_replica.proofs.StateViews.{names-shown, active-seen, made-seen}
use Rattle.rmt_supply.specs.PartSources.{Does, AreActive, IsMadeOfActive}

-- ---- images of lists

Has-image : {A B : Type 0} (f : A → B) (xs : List A) (x : A) → Has xs x → Has (map f xs) (f x)
Has-image f [] x h = absurd h
Has-image f (y ∷ xs) x (inl q) = inl (ap f q)
Has-image f (y ∷ xs) x (inr h) = inr (Has-image f xs x h)

Has-source : {A B : Type 0} (f : A → B) (xs : List A) (y : B) → Has (map f xs) y → (x : A) × Has xs x × (f x ≡ y)
Has-source f [] y h = absurd h
Has-source f (x ∷ xs) y (inl q) = (x, inl refl, q)
Has-source f (x ∷ xs) y (inr h) = let k = Has-source f xs y h in (k.0, inr k.1, k.2)

Each-append : {A : Type 0} (P : A → Type 0) (xs ys : List A) → Each P xs → Each P ys → Each P (xs ++ ys)
Each-append P [] ys f g = g
Each-append P (x ∷ xs) ys f g = (f.0, Each-append P xs ys f.1 g)

-- ---- active parts

names-apart : (r : ReplicaView) → IsStandingReplica r → AreApart (part_names r.parts)
names-apart r s = record {
  apart = s.fair.apart;
  sized = Each-all (λ (a : Name). a.min ≤ a.max) (part_names r.parts) (λ a h. made-sized r.schema r.log a s.lawful (Each-at (λ (x : Name). Has (made r.log) x) (part_names r.parts) a s.fair.made_here h));
}

-- the active part that covers an active name is the one of that name
pub covering-named : (r : ReplicaView) (a : Name) (part : PartValue) → IsStandingReplica r → Has (part_names r.parts) a → IsCovering r.parts a part → part.name ≡ a
covering-named r a part s h c = Covers-antisym part.name a c.covers ((named-so r.parts a part (names-apart r s) c).1 h)

-- no active part
pub none-active : {A : Type 0} (see : A → PartValue) (r : ReplicaView) (names : List Name) (all : List A) → all ≡ [] → AreActive r (take 0 names) (map see all)
none-active {A} see r names all e = subst (λ (l : List A). AreActive r (take 0 names) (map see l)) (sym e) (record { named = refl; active = tt })

-- one more active part
pub active-next : {A : Type 0} (see : A → PartValue) (r : ReplicaView) (names : List Name) (i : ℕ) (a : Name) (parts all : List A) (part : A) → AreActive r (take i names) (map see parts) → a ≡ get_or names i a → i < length names → Has r.parts (see part) → (see part).name ≡ a → all ≡ parts ++ part ∷ [] → AreActive r (take (i + 1) names) (map see all)
active-next {A} see r names i a parts all part k e l h n f = subst (λ (xs : List A). AreActive r (take (i + 1) names) (map see xs)) (sym f) (record {
  named =
      ap part_names (map-append see parts (part ∷ []))
      ∙ (map-append (λ (p : PartValue). p.name) (map see parts) (see part ∷ [])
      ∙ (ap (λ (ns : List Name). ns ++ (see part).name ∷ []) k.named ∙ (ap (λ (x : Name). take i names ++ x ∷ []) n ∙ sym (take-next names i a e l))));
  active = subst (Each (Has r.parts)) (sym (map-append see parts (part ∷ []))) (Each-append (Has r.parts) (map see parts) (see part ∷ []) k.active (h, tt));
})

pub all-active : {A : Type 0} (see : A → PartValue) (r : ReplicaView) (names : List Name) (n : ℕ) (all : List A) → AreActive r (take n names) (map see all) → n ≤ length names → length names ≤ n → AreActive r names (map see all)
all-active see r names n all k l m = subst (λ (ns : List Name). AreActive r ns (map see all)) (take-whole names n (omega (arith, l, m))) k

-- ---- what calls find

pub Has-at : {A : Type 0} (xs : List A) (i : ℕ) (x : A) → x ≡ get_or xs i x → i < length xs → Has xs x
Has-at [] i x e l = absurd (omega (arith, l))
Has-at (y ∷ xs) zero x e l = inl (sym e)
Has-at (y ∷ xs) (suc i) x e l = inr (Has-at xs i x e (omega (arith, l)))

-- the active part that a call found
pub is-covering : {A : Type 0} (o : Option A) (see : A → PartValue) (parts : List PartValue) (a : Name) (x : A) → MatchOption o ((b : Name) → Has (part_names parts) b → Covers b a → ⊥) (λ y. IsCovering parts a (see y)) → o ≡ Some x → IsCovering parts a (see x)
is-covering {A} o see parts a x m e = subst (λ (z : Option A). MatchOption z ((b : Name) → Has (part_names parts) b → Covers b a → ⊥) (λ y. IsCovering parts a (see y))) e m

-- ---- parts of the log before an entry

-- what a prefix of a lawful log made is made nowhere past it
made-within : (schema : Shape) (later earlier : List Entry) (a : Name) (j : ℕ) → Lawful schema (later ++ earlier) → Has (made earlier) a → MakesAt (later ++ earlier) j a → j < length earlier
made-within schema [] earlier a j l h m = entry-below earlier j m.entry m.stands
made-within schema (x ∷ later) earlier a j l h m = elim (entry-cases x (later ++ earlier) j m.entry m.stands) [
  | inl k ↦ absurd (twice (ap result_name k.1 ∙ m.makes))
  | inr k ↦ made-within schema later earlier a j l.0 h (record { entry = m.entry; stands = k; makes = m.makes })
]
  where
    twice : result_name x ≡ Some a → ⊥
    twice q =
        let p = subst (λ (o : Option Name). Pairwise Supersedes (made_with o (made (later ++ earlier)))) q (later-covers schema (x ∷ (later ++ earlier)) l) in
        (Each-at (Supersedes a) (made (later ++ earlier)) a p.0 (made-behind later earlier a h)).differ refl

-- a part whose name a prefix of the log made is of the prefix
of-prefix : (schema : Shape) (log earlier : List Entry) (part : PartValue) → Lawful schema log → IsPrefix earlier log → IsMadeIn schema log part → Has (made earlier) part.name → IsOfLog earlier part
of-prefix schema log earlier part l p m h =
    let makes : MakesAt log part.made.place part.name = record { entry = part.made.value; stands = m.of_log.made; makes = m.is_part.keeps.made } in
    of-log-prefix part earlier log m.is_part p (made-within schema p.gained earlier part.name part.made.place (subst (Lawful schema) p.is l) h (subst (λ (x : List Entry). MakesAt x part.made.place part.name) p.is makes)) m.of_log

-- the sources of a Merge were made before it
sources-made : (schema : Shape) (log : List Entry) (new : Name) (sources : List Name) (count : ℕ) (a : Name) → Lawful schema (Merge new sources count ∷ log) → Has sources a → Has (made log) a
sources-made schema log new [] count a l h = absurd h
sources-made schema log new (x ∷ []) count a l h = absurd l.1
sources-made schema log new (x ∷ y ∷ rest) count a l h = live-made log a (source-live log (tight schema log l.0) x y rest new count l.1 a h)

-- the entry at a place of a lawful log meets its line in the log before it
lawful-at : (schema : Shape) (log : List Entry) (i : ℕ) (e : Entry) → Lawful schema log → (c : CutAt log i e) → Lawful schema (e ∷ c.earlier)
lawful-at schema log i e l c = lawful-behind schema c.later (e ∷ c.earlier) (subst (Lawful schema) c.is l)

prefix-at : (log : List Entry) (i : ℕ) (e : Entry) → (c : CutAt log i e) → IsPrefix c.earlier log
prefix-at log i e c = record { gained = c.later ++ e ∷ []; is = c.is ∙ sym (append_assoc c.later (e ∷ []) c.earlier) }

-- ---- what a merge gathers

-- each block of parts is of one of them
joined-from : (parts : List PartValue) (b : AcceptedView) → Has (blocks_joined parts) b → (part : PartValue) × Has parts part × Has part.blocks b
joined-from [] b h = absurd h
joined-from (part ∷ parts) b h = elim (Has-append part.blocks (blocks_joined parts) b h) [
  | inl k ↦ (part, inl refl, k)
  | inr k ↦ (let f = joined-from parts b k in (f.0, inr f.1, f.2))
]

joined-stand : (log : List Entry) (parts : List PartValue) → Each (IsOfLog log) parts → Each (λ b. StandsIn log b.get) (blocks_joined parts)
joined-stand log [] o = tt
joined-stand log (part ∷ parts) o = Each-append (λ (b : AcceptedView). StandsIn log b.get) part.blocks (blocks_joined parts) o.0.blocks (joined-stand log parts o.1)

most-stand : (log : List Entry) (parts : List PartValue) → Each (IsOfLog log) parts → Each (StandsIn log) (most_tokens parts)
most-stand log [] o = tt
most-stand log (part ∷ parts) o = go (nat_le (length (most_tokens parts)) (length part.mutations)) (most-stand log parts o.1)
  where
    go : (b : Bool) → Each (StandsIn log) (most_tokens parts) → Each (StandsIn log) (cond b part.mutations (most_tokens parts))
    go true f = o.0.mutations
    go false f = f

-- what is made of parts of a schema is of the schema
one-schema : (schema : Shape) (log : List Entry) (new : Name) (count : ℕ) (parts : List PartValue) (part : PartValue) → Lawful schema (Merge new (part_names parts) count ∷ log) → Each (λ x. x.schema ≡ schema) parts → Each (λ x. x.schema ≡ part.schema) parts → part.schema ≡ schema
one-schema schema log new count [] part l f g = absurd l.1
one-schema schema log new count (x ∷ parts) part l f g = sym g.0 ∙ f.0

-- ---- the part of a Merge

module _ (r : ReplicaView) (i : ℕ) (new : Name) (sources : List Name) (count : ℕ) (parts : List PartValue) (token : Token Entry) (s : IsStandingReplica r) (q : entry_at r.log i ≡ Some (Merge new sources count)) (a : AreActive r sources parts) (p : token.place ≡ i) (v : token.value ≡ Merge new sources count) where
  cut : CutAt r.log i (Merge new sources count)
  cut = cut-at r.log i (Merge new sources count) q

  lawful : Lawful r.schema (Merge new sources count ∷ cut.earlier)
  lawful = lawful-at r.schema r.log i (Merge new sources count) s.lawful cut

  lawful-names : Lawful r.schema (Merge new (part_names parts) count ∷ cut.earlier)
  lawful-names = subst (λ (names : List Name). Lawful r.schema (Merge new names count ∷ cut.earlier)) (sym a.named) lawful

  is-source : (part : PartValue) → Has parts part → Has sources part.name
  is-source part h = subst (λ (names : List Name). Has names part.name) a.named (Has-image (λ (x : PartValue). x.name) parts part h)

  made-here : (part : PartValue) → Has parts part → IsMadeIn r.schema r.log part
  made-here part h = Each-at (IsMadeIn r.schema r.log) r.parts part s.made (Each-at (Has r.parts) parts part a.active h)

  schemas : Each (λ part. part.schema ≡ r.schema) parts
  schemas = Each-all (λ (part : PartValue). part.schema ≡ r.schema) parts (λ part h. (made-here part h).of_schema)

  of-logs : Each (IsOfLog r.log) parts
  of-logs = Each-all (IsOfLog r.log) parts (λ part h. (made-here part h).of_log)

  pub merge-of : IsMergeOf token parts
  merge-of = record {
    schema = r.schema;
    log = cut.earlier;
    new = new;
    count = count;
    place = p ∙ sym cut.at;
    entry = v ∙ ap (λ (names : List Name). Merge new names count) (sym a.named);
    lawful = lawful-names;
    schemas = schemas;
    of_log = Each-all (IsOfLog cut.earlier) parts (λ part h. of-prefix r.schema r.log cut.earlier part s.lawful (prefix-at r.log i (Merge new sources count) cut) (made-here part h) (sources-made r.schema cut.earlier new sources count part.name lawful (is-source part h)));
  }

  pub merged-made : (part : PartValue) → IsMerged token parts part → IsPart part → IsMadeOfActive r i part
  merged-made part m is =
      let stands : StandsIn r.log token = ap (entry_at r.log) p ∙ (q ∙ ap Some (sym v)) in
      let named : result_name (Merge new sources count) ≡ Some part.name = ap result_name (sym v) ∙ m.named in
      record {
        is_part = is;
        of_schema = one-schema r.schema cut.earlier new count parts part lawful-names schemas m.schemas;
        of_log = record {
          made = subst (StandsIn r.log) (sym m.made) stands;
          blocks = subst (Each (λ (b : AcceptedView). StandsIn r.log b.get)) (sym m.blocks) (joined-stand r.log parts of-logs);
          mutations = subst (Each (StandsIn r.log)) (sym m.mutations) (most-stand r.log parts of-logs);
        };
        place = ap (λ (t : Token Entry). t.place) m.made ∙ p;
        named = record { entry = Merge new sources count; stands = q; makes = named };
        blocks = λ b h. theirs part (some-same new part.name named) b (joined-from parts b (subst (λ (l : List AcceptedView). Has l b) m.blocks h));
      }
    where
      theirs : (part : PartValue) → new ≡ part.name → (b : AcceptedView) → (x : PartValue) × Has parts x × Has x.blocks b → (x : PartValue) × Has r.parts x × (x.name.partition ≡ part.name.partition) × Has x.blocks b
      theirs part n b f = (
        f.0,
        Each-at (Has r.parts) parts f.0 a.active f.1,
        source-partition r.schema cut.earlier new sources count lawful (PartValue.name f.0) (is-source f.0 f.1) ∙ ap (λ (x : Name). x.partition) n,
        f.2,
      )

-- ---- the part of a Mutate

module _ (r : ReplicaView) (i : ℕ) (old new : Name) (upto count mcount : ℕ) (source : PartValue) (tokens : List (Token Entry)) (token : Token Entry) (s : IsStandingReplica r) (q : entry_at r.log i ≡ Some (Mutate old new upto count mcount)) (h : Has r.parts source) (n : source.name ≡ old) (b : AreTokensBelow (copy_of r) (upto + 1) (mutations_below r.log (upto + 1)) tokens) (p : token.place ≡ i) (v : token.value ≡ Mutate old new upto count mcount) where
  source-made : IsMadeIn r.schema r.log source
  source-made = Each-at (IsMadeIn r.schema r.log) r.parts source s.made h

  token-stands : StandsIn r.log token
  token-stands = ap (entry_at r.log) p ∙ (q ∙ ap Some (sym v))

  pub mutate-of : IsMutateOf token source tokens
  mutate-of = record {
    copy = copy_of r;
    new = new;
    upto = upto;
    count = count;
    mcount = mcount;
    entry = v ∙ ap (λ (a : Name). Mutate a new upto count mcount) (sym n);
    lawful = s.lawful;
    stands = token-stands;
    schema = source-made.of_schema;
    of_log = source-made.of_log;
    below = b;
  }

  same-partition : old.partition ≡ new.partition
  same-partition =
      let c = cut-at r.log i (Mutate old new upto count mcount) q in
      let m = (lawful-at r.schema r.log i (Mutate old new upto count mcount) s.lawful c).1 in
      sym (ap (λ (a : Name). a.partition) (IsMutate.name m))

  pub mutated-made : (part : PartValue) → IsMutated token source tokens part → IsPart part → IsMadeOfActive r i part
  mutated-made part m is =
      let named : result_name (Mutate old new upto count mcount) ≡ Some part.name = ap result_name (sym v) ∙ m.named in
      let partition = ap (λ (a : Name). a.partition) n ∙ (same-partition ∙ ap (λ (a : Name). a.partition) (some-same new part.name named)) in
      record {
        is_part = is;
        of_schema = m.schema ∙ source-made.of_schema;
        of_log = record {
          made = subst (StandsIn r.log) (sym m.made) token-stands;
          blocks = subst (Each (λ (b : AcceptedView). StandsIn r.log b.get)) (sym m.blocks) source-made.of_log.blocks;
          mutations = subst (Each (StandsIn r.log)) (sym m.mutations) (Each-all (StandsIn r.log) tokens (λ t k. (Each-at (IsTokenBelow (copy_of r) (upto + 1)) tokens t b.places k).entry));
        };
        place = ap (λ (t : Token Entry). t.place) m.made ∙ p;
        named = record { entry = Mutate old new upto count mcount; stands = q; makes = named };
        blocks = λ b k. (source, h, partition, subst (λ (l : List AcceptedView). Has l b) m.blocks k);
      }

-- ---- what is made of active parts

-- a cluster sees its blocks as blocks of active parts
blocks-seen : (r : ReplicaView) (i : ℕ) (part : PartValue) → IsMadeOfActive r i part → (b : NumberedBlock) → Has (map numbered part.blocks) b → (from : Copied) × Has (map copied r.parts) from × (from.name.partition ≡ part.name.partition) × Has from.lineage b
blocks-seen r i part m b h =
    let k = Has-source numbered part.blocks b h in
    let f = m.blocks k.0 k.1 in (
      copied f.0,
      Has-image copied r.parts f.0 f.1,
      f.2,
      subst (Has (map numbered (PartValue.blocks f.0))) k.2 (Has-image numbered (PartValue.blocks f.0) k.0 f.3),
    )

-- a cluster sees that the part is made of active parts
pub from-parts : (r : ReplicaView) (i : ℕ) (e : Entry) (part : PartValue) → IsStandingReplica r → entry_at r.log i ≡ Some e → HasSources e (shown r) → IsMadeOfActive r i part → (s : Cluster) → s.table.schema ≡ r.schema → IsFromParts s (shown r) i (copied part)
from-parts r i e part s q h m c w = record {
  entry = e;
  at = q;
  sources = h;
  made_here = m.named;
  place = m.place;
  blocks = blocks-seen r i part m;
  holds = subst (λ (shape : Shape). IsCopied shape r.log (copied part)) (sym w) (made-seen r.schema r.log part s.lawful (record { is_part = m.is_part; of_schema = m.of_schema; of_log = m.of_log })).1;
}

-- the part of a Merge whose sources are active
pub merged-from-parts : (r : ReplicaView) (i : ℕ) (new : Name) (sources : List Name) (count : ℕ) (part : PartValue) → IsStandingReplica r → entry_at r.log i ≡ Some (Merge new sources count) → Each (Has (part_names r.parts)) sources → IsMadeOfActive r i part → (s : Cluster) → s.table.schema ≡ r.schema → IsFromParts s (shown r) i (copied part)
merged-from-parts r i new sources count part s q h m = from-parts r i (Merge new sources count) part s q (active-seen r sources h) m

-- the part of a Mutate whose old part is active
pub mutated-from-parts : (r : ReplicaView) (i : ℕ) (old new : Name) (upto count mcount : ℕ) (part : PartValue) → IsStandingReplica r → entry_at r.log i ≡ Some (Mutate old new upto count mcount) → Has (part_names r.parts) old → IsMadeOfActive r i part → (s : Cluster) → s.table.schema ≡ r.schema → IsFromParts s (shown r) i (copied part)
mutated-from-parts r i old new upto count mcount part s q h m = from-parts r i (Mutate old new upto count mcount) part s q (subst (λ (names : List Name). Has names old) (sym (names-shown r.parts)) h) m

-- tokens that stand in a log agree with it
agree : (log : List Entry) (tokens : List (Token Entry)) → Each (StandsIn log) tokens → Each (AgreesWith log) tokens
agree log tokens h = Each-all (AgreesWith log) tokens (λ t k w. Each-at (StandsIn log) tokens t h k)

-- the part does the entry, where that waits
pub made-does : (r : ReplicaView) (i : ℕ) (part : PartValue) → IsMadeOfActive r i part → own.Waits r i → Does r i part
made-does r i part m w = record {
  waits = w;
  name = part.name;
  makes = m.named;
  covers = Covers-refl part.name;
  within = entry-below r.log part.made.place part.made.value m.of_log.made;
  of_table = record {
    of_schema = m.of_schema;
    agrees = record {
      made = λ _. m.of_log.made;
      blocks = Each-all (λ (b : AcceptedView). AgreesWith r.log b.get) part.blocks (λ b k _. Each-at (λ (x : AcceptedView). StandsIn r.log x.get) part.blocks b m.of_log.blocks k);
      mutations = agree r.log part.mutations m.of_log.mutations;
    };
  };
}
