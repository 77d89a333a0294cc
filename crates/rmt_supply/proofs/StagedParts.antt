-- The part of a block that is staged, as a cluster sees it, and as the Get of the block wants it.
use Rattle.std.proofs.Common.{◌≡◌, ℕ, ◌<◌, ◌^◌, arith, List, [], ◌∷◌, length, map, sym, ap, subst, ◌∙◌}
use Rattle.std.specs.declared.option.Option.{Option}
use Rattle.std.specs.declared.option.Option.TheVariants.{Some}
use Rattle.rmt_values.specs.Rows.{Shape}
use Rattle.rmt_names.specs.Names.{block_name}
use Rattle.rmt_entries.specs.Entries.{result_name}
use Rattle.rmt_entries.specs.declared.entry.Entry.{Entry}
use Rattle.rmt_entries.specs.declared.entry.Entry.TheVariants.{Get, Merge, Mutate, Mutation, DropRange}
use Rattle.rmt_row.specs.Token.{Token}
use Rattle.rmt_block.specs.Blocks.{BlockView}
use Rattle.rmt_model.specs.Words.{Each}
use Rattle.rmt_model.specs.Lawful.{Lawful, entry_at}
use Rattle.rmt_model.specs.CopiedParts.{Copied, IsCopied}
use Rattle.rmt_model.proofs.Lists.{Each-at, Each-all}
use Rattle.rmt_model.proofs.LiveLaws.{Covers-refl}
use Rattle.rmt_model.proofs.Drops.{some-same, entry-below}
use Rattle.rmt_part.specs.Lineages.{AcceptedView, PartValue, numbered, number_got, IsPart, StandsIn, IsOfLog, AgreesWith}
use Rattle.rmt_part.specs.Lineages as parts
use Rattle.rmt_part.specs.CopiedPart.{copied}
use Rattle.rmt_part.proofs.CopiedLaws.{part-copied}
use Rattle.rmt_granules.specs.Granules.{PartView as Data}
use Rattle.rmt_compact.specs.NewParts.{GetsBlock}
use Rattle.rmt_compact.specs.NewParts as new
use Rattle.rmt_compact.proofs.SentLemmas.{length-in_key_order}
use Rattle.rmt_replica.specs.StagedBlocks.{staged_at}
use Rattle.rmt_replica.specs.Replicas.{ReplicaView, IsStandingReplica}
use Rattle.rmt_replica.specs.Answers as own
use Rattle.rmt_replica.specs.SeenReplica.{shown}
use Rattle.rmt_replica.proofs.StagedViews.{found}
use Rattle.rmt_events.specs.Views.{Block, Replica}
use Rattle.rmt_events.specs.Clusters.{Cluster, without_kinds}
use Rattle.rmt_events.specs.ReplicaCalls.{IsStaged}
use Rattle.rmt_events.specs.ApplyEvents.{IsOfBlock, IsFromStage}
use Rattle.rmt_supply.specs.PartSources.{staged_for, Does, IsOfStaged}

-- ---- a block that is staged for an entry

-- the entry is the Get of a block that is staged under its number
record IsGetOfStaged (r : ReplicaView) (e : Entry) (b : BlockView) : Type 0 where
  pub number : ℕ
  pub source : ℕ
  pub need : ℕ
  pub is : e ≡ Get b.partition number b.digest source need
  pub staged : staged_at r.staged (record { partition = b.partition; number = number }) ≡ Some b

get-of-staged : (r : ReplicaView) (e : Entry) (b : BlockView) → staged_for r e ≡ Some b → GetsBlock e b → IsGetOfStaged r e b
get-of-staged r (Get p n digest source need) b h g = record {
  number = n;
  source = source;
  need = need;
  is = ap (λ (q : Option ℕ). Get q n digest source need) g.0 ∙ ap (λ (d : List ℕ). Get b.partition n d source need) g.1;
  staged = subst (λ (q : Option ℕ). staged_at r.staged (record { partition = q; number = n }) ≡ Some b) g.0 h;
}
get-of-staged r (Merge new sources count) b h g = absurd g
get-of-staged r (Mutate old new upto count mcount) b h g = absurd g
get-of-staged r (Mutation id numbers command) b h g = absurd g
get-of-staged r (DropRange p n) b h g = absurd g

-- ---- the part of a block

-- it is of each log that has the block's Get
block-of-log : (schema : Shape) (log : List Entry) (token : Token Entry) (b : BlockView) (part : PartValue) → StandsIn log token → new.IsOfBlock schema token b part → IsOfLog log part
block-of-log schema log token b part s is = record {
  made = subst (StandsIn log) (sym is.made) s;
  blocks = subst (λ (bs : List AcceptedView). Each (λ b. StandsIn log b.get) bs) (sym is.blocks) (s, tt);
  mutations = subst (λ (ts : List (Token Entry)). Each (StandsIn log) ts) (sym is.mutations) tt;
}

-- a part of a log is of the log's table
pub of-table : (part : PartValue) (log : List Entry) → IsOfLog log part → parts.IsOfTable log part
of-table part log o = record {
  made = λ l. o.made;
  blocks = Each-all (λ b. AgreesWith log b.get) part.blocks (λ b h l. Each-at (λ x. StandsIn log x.get) part.blocks b o.blocks h);
  mutations = Each-all (AgreesWith log) part.mutations (λ t h l. Each-at (StandsIn log) part.mutations t o.mutations h);
}

block-seen : (schema : Shape) (x : Replica) (i : ℕ) (token : Token Entry) (b : BlockView) (part : PartValue) (n source need : ℕ) → entry_at x.log i ≡ Some token.value → token.place ≡ i → token.value ≡ Get b.partition n b.digest source need → new.IsOfBlock schema token b part → IsOfBlock x i (without_kinds b) n (copied part)
block-seen schema x i token b part n source need q p v is = record {
  source = source;
  need = need;
  entry = q ∙ ap (λ (e : Entry). Some e) v;
  place = ap (λ (t : Token Entry). t.place) is.made ∙ p;
  named = some-same part.name (block_name b.partition n) (sym is.named ∙ ap result_name v);
  lineage = ap (map numbered) is.blocks ∙ ap (λ (e : Entry). record { number = number_got e; digest = b.digest; rows = b.rows } ∷ []) v;
}

-- ---- the part of a staged block

-- as a cluster sees it: the part of a block that is staged at a holder, for the Get at a place of another one
pub record IsStagedPart (schema : Shape) (holder x : Replica) (i : ℕ) (part : Copied) : Type 0 where
  pub block : Block
  pub number : ℕ
  pub staged : IsStaged holder block.partition number block
  pub is : IsOfBlock x i block number part
  pub holds : IsCopied schema x.log part

stands-at : (log : List Entry) (i : ℕ) (token : Token Entry) → entry_at log i ≡ Some token.value → token.place ≡ i → StandsIn log token
stands-at log i token q p = subst (λ k. entry_at log k ≡ Some token.value) (sym p) q

pub staged-seen : (x holder : ReplicaView) (i : ℕ) (token : Token Entry) (part : PartValue) → IsStandingReplica x → IsStandingReplica holder → entry_at x.log i ≡ Some token.value → token.place ≡ i → IsOfStaged x.schema holder token part → IsStagedPart x.schema (shown holder) (shown x) i (copied part)
staged-seen x holder i token part s t q p h =
    let g = get-of-staged holder token.value h.block h.staged h.accepted.gets in
    let f = found (record { partition = h.block.partition; number = g.number }) holder.staged h.block t.waiting.own g.staged in
    let l = block-of-log x.schema x.log token h.block part (stands-at x.log i token q p) h.is in
    record {
      block = without_kinds h.block;
      number = g.number;
      staged = record { is_in = f.0; partition = f.1 };
      is = block-seen x.schema (shown x) i token h.block part g.number g.source g.need q p g.is h.is;
      holds = subst (λ (v : Shape). IsCopied v x.log (copied part)) h.is.schema (part-copied part x.log h.is_part (subst (λ (v : Shape). Lawful v x.log) (sym h.is.schema) s.lawful) l);
    }

-- it does the entry of its token
pub block-does : (x holder : ReplicaView) (i : ℕ) (token : Token Entry) (part : PartValue) → entry_at x.log i ≡ Some token.value → token.place ≡ i → IsOfStaged x.schema holder token part → own.Waits x i → Does x i part
block-does x holder i token part q p h w = record {
  waits = w;
  name = part.name;
  makes = record { entry = token.value; stands = q; makes = h.is.named };
  covers = Covers-refl part.name;
  within = subst (λ k. k < length x.log) (sym (ap (λ (t : Token Entry). t.place) h.is.made ∙ p)) (entry-below x.log i token.value q);
  of_table = record { of_schema = h.is.schema; agrees = of-table part x.log (block-of-log x.schema x.log token h.block part (stands-at x.log i token q p) h.is) };
}

-- ---- a replica's own block

-- the part of the block that is staged here is from the stage
pub from-stage : (x : ReplicaView) (i : ℕ) (e : Entry) (token : Token Entry) (part : PartValue) → IsStandingReplica x → entry_at x.log i ≡ Some e → token.place ≡ i → token.value ≡ e → IsOfStaged x.schema x token part
    → (s : Cluster) → s.table.schema ≡ x.schema → IsFromStage s (shown x) i (copied part)
from-stage x i e token part t q p v h s c =
    let k = staged-seen x x i token part t t (q ∙ ap (λ (z : Entry). Some z) (sym v)) p h in
    record { block = k.block; number = k.number; staged = k.staged; is = k.is; holds = subst (λ (z : Shape). IsCopied z x.log (copied part)) (sym c) k.holds }

-- and does the entry
pub staged-does : (x : ReplicaView) (i : ℕ) (e : Entry) (token : Token Entry) (part : PartValue) → IsStandingReplica x → entry_at x.log i ≡ Some e → token.place ≡ i → token.value ≡ e → IsOfStaged x.schema x token part → own.Waits x i → Does x i part
staged-does x i e token part t q p v h w = block-does x x i token part (q ∙ ap (λ (z : Entry). Some z) (sym v)) p h w

-- ---- how many rows

-- the part of a block has as many as the block
pub block-small : (schema : Shape) (token : Token Entry) (b : BlockView) (part other : PartValue) → new.IsOfBlock schema token b part → other ≡ part → length b.rows < 2 ^ 32 → length other.body.rows < 2 ^ 32
block-small schema token b part other is e few =
    let same = ap (λ (p : PartValue). length p.body.rows) e in
    let made = ap (λ (d : Data). length d.rows) is.body in
    let ordered = length-in_key_order schema b.rows in
    omega (arith, same, made, ordered, few)
