-- What is supplied for an entry serves it, with the blocks that were committed; so to do an entry leaves all whole.
use Rattle.std.proofs.Common.{◌≡◌, ℕ, inl, inr, List, [], ◌∷◌, sym, ap, subst}
use Rattle.std.specs.declared.option.Option.{Option}
use Rattle.std.specs.declared.option.Option.TheVariants.{Some}
use Rattle.rmt_names.specs.Names.{Name, block_name}
use Rattle.rmt_entries.specs.declared.entry.Entry.TheVariants.{Get}
use Rattle.rmt_model.specs.Lawful.{MakesAt}
use Rattle.rmt_model.specs.Words.{Has, Each}
use Rattle.rmt_model.specs.Parts.{NumberedBlock}
use Rattle.rmt_model.specs.CopiedParts.{Copied, IsCopied}
use Rattle.rmt_model.proofs.Lists.{Each-at, Each-all}
use Rattle.rmt_events.specs.Views.{Block, Replica}
use Rattle.rmt_events.specs.Sound.{IsSoundTable}
use Rattle.rmt_events.specs.ReplicaCalls.{Fits, Settles}
use Rattle.rmt_events.proofs.FairSteps.{Serves}
use Rattle.rmt_events.specs.Clusters.{Cluster}
use Rattle.rmt_events.specs.Whole.{IsBlockAt, HasItsBlocks, IsRightlyStaged, Follows, IsWhole}
use Rattle.rmt_events.specs.ApplyEvents.{IsOfBlock, IsSupply, InstallsSupply, AppliesTo, Applies}
use Rattle.rmt_events.proofs.Copies.{part-over}
use Rattle.rmt_events.proofs.Moves.{entry-goes-on, whole-replaced}
use Rattle.rmt_events.proofs.WholeReplica.{follower, follows-settles, follows-drop, follows-part}
use Rattle.rmt_events.specs.declared.reply.Reply.{Reply}
use Rattle.rmt_events.specs.declared.applied.Applied.{Applied}
use Rattle.rmt_events.specs.declared.applied.Applied.TheVariants as ap_

-- the part of a block that is staged somewhere
of-block-made : (x : Replica) (i : ℕ) (b : Block) (n : ℕ) (part : Copied) → IsOfBlock x i b n part → MakesAt x.log part.place part.name
of-block-made x i b n part k =
    subst (λ j. MakesAt x.log j part.name) (sym k.place) (record { entry = Get b.partition n b.digest k.source k.need; stands = k.entry; makes = ap Some (sym k.named) })

of-block-blocks : (s : Cluster) (x : Replica) (i : ℕ) (b : Block) (n : ℕ) (part : Copied) → Follows s x → IsOfBlock x i b n part → IsRightlyStaged s (record { number = n; block = b }) → HasItsBlocks s part
of-block-blocks s x i b n part f k r =
    let q = entry-goes-on x.log s.table.log i (Get b.partition n b.digest k.source k.need) f.prefix k.entry in
    let w : HasItsBlocks s (record part { name = block_name b.partition n; lineage = record { number = n; digest = b.digest; rows = b.rows } ∷ [] }) =
    (record { place = i; source = k.source; need = k.need; entry = q; block = r.of_get i k.source k.need b.digest q }, tt) in
    subst (λ (bs : List NumberedBlock). Each (IsBlockAt s part.name.partition) bs) (sym k.lineage) (subst (λ (a : Name). Each (IsBlockAt s a.partition) (record { number = n; digest = b.digest; rows = b.rows } ∷ [])) (sym k.named) w)

-- each supply serves
pub supply-serves : (s : Cluster) (x : Replica) (i : ℕ) (part : Copied) → IsWhole s → Follows s x → Fits x i part → IsSupply s x i part → Serves s.table.schema x i part × HasItsBlocks s part
supply-serves s x i part w f t (inl k) = (
  record { fits = t; of_copy = of-block-made x i k.block k.number part k.is; holds = k.holds },
  of-block-blocks s x i k.block k.number part f k.is (Each-at (IsRightlyStaged s) x.staged (record { number = k.number; block = k.block }) f.waiting k.staged.is_in),
)
supply-serves s x i part w f t (inr (inl k)) = (
  record { fits = t; of_copy = subst (λ j. MakesAt x.log j part.name) (sym k.place) k.made_here; holds = k.holds },
  Each-all (IsBlockAt s part.name.partition) part.lineage (λ b h. theirs b (k.blocks b h)),
)
  where
    theirs : (b : NumberedBlock) → (from : Copied) × Has x.parts from × (from.name.partition ≡ part.name.partition) × Has from.lineage b → IsBlockAt s part.name.partition b
    theirs b g = subst (λ (o : Option ℕ). IsBlockAt s o b) g.2 (Each-at (IsBlockAt s (Copied.name g.0).partition) (Copied.lineage g.0) b (Each-at (HasItsBlocks s) x.parts g.0 f.blocks g.1) g.3)
supply-serves s x i part w f t (inr (inr (inl k))) =
    let g = Each-at (Follows s) s.replicas k.from w.follow k.may.other.is_in in
    let m = Each-at (λ p. MakesAt k.from.log p.place p.name × IsCopied s.table.schema k.from.log p) k.from.parts part g.stands.parts k.is_in in
    let o = part-over s.table.schema k.from.log x.log s.table.log part (IsSoundTable.lawful w.table) g.prefix f.prefix m.0 m.1 k.within in
    (record { fits = t; of_copy = o.0; holds = o.1 }, Each-at (HasItsBlocks s) k.from.parts part g.blocks k.is_in)
supply-serves s x i part w f t (inr (inr (inr k))) = (
  record { fits = t; of_copy = of-block-made x i k.block k.number part k.is; holds = k.holds },
  of-block-blocks s x i k.block k.number part f k.is (let g = Each-at (Follows s) s.replicas k.from w.follow k.may.other.is_in in Each-at (IsRightlyStaged s) k.from.staged (record { number = k.number; block = k.block }) g.waiting k.staged.is_in),
)

follows-installs : (s : Cluster) (x y : Replica) (i : ℕ) → IsWhole s → Follows s x → InstallsSupply s i x y → Follows s y
follows-installs s x y i w f e =
    let v = supply-serves s x i e.part w f e.does.fits e.supply in
    follows-part s x y i e.part w f v.0 v.1 e.does

pub follows-applies : (s : Cluster) (x y : Replica) (i : ℕ) (comes : Applied) → IsWhole s → Follows s x → AppliesTo s i comes x y → Follows s y
follows-applies s x y i ap_.Already w f a = follows-settles s x y i w f a.1
follows-applies s x y i ap_.Dropped w f a = follows-settles s x y i w f a.1
follows-applies s x y i ap_.Installed w f (inl a) = follows-drop s x y i w f a.1
follows-applies s x y i ap_.Installed w f (inr a) = follows-installs s x y i w f a

-- the number of a replica stays
pub number-applies : (s : Cluster) (x y : Replica) (i : ℕ) (comes : Applied) → AppliesTo s i comes x y → y.number ≡ x.number
number-applies s x y i ap_.Already a = ap (λ (z : Replica). z.number) (Settles.change a.1)
number-applies s x y i ap_.Dropped a = ap (λ (z : Replica). z.number) (Settles.change a.1)
number-applies s x y i ap_.Installed (inl a) = ap (λ (z : Replica). z.number) a.1.change
number-applies s x y i ap_.Installed (inr a) = ap (λ (z : Replica). z.number) a.does.change

notes-applies : (s : Cluster) (x y : Replica) (i : ℕ) (c : Applied) → AppliesTo s i c x y → (a : Name) → Has x.noted a → Has y.noted a
notes-applies s x y i ap_.Already a b h = subst (λ (z : Replica). Has z.noted b) (sym (Settles.change a.1)) h
notes-applies s x y i ap_.Dropped a b h = subst (λ (z : Replica). Has z.noted b) (sym (Settles.change a.1)) h
notes-applies s x y i ap_.Installed (inl a) b h = subst (λ (z : Replica). Has z.noted b) (sym (a.1.change)) h
notes-applies s x y i ap_.Installed (inr a) b h = subst (λ (z : Replica). Has z.noted b) (sym (a.does.change)) h

pub whole-applies : (s t : Cluster) (k i : ℕ) (reply : Reply) → IsWhole s → Applies s k i reply t → IsWhole t
whole-applies s t k i reply w a =
    let r = a.at in
    subst IsWhole (sym r.change) (whole-replaced s k r.old r.new w r.at (number-applies s r.old r.new i a.comes r.does.1) (notes-applies s r.old r.new i a.comes r.does.1) (follows-applies s r.old r.new i a.comes w (follower s k r.old w r.at) r.does.1))
