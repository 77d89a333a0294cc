-- Replicas at rest agree, where no two offered blocks of one id differ.
use Rattle.std.proofs.Common.{◌≡◌, ◌∙◌, ℕ, List, [], ◌∷◌, length, map, refl, sym, ap, subst}
use Rattle.std.specs.declared.option.Option.{Option}
use Rattle.rmt_values.specs.Rows.{Shape}
use Rattle.rmt_values.specs.Order.{SameBag}
use Rattle.rmt_names.specs.Names.{Spans}
use Rattle.rmt_entries.specs.declared.entry.Entry.{Entry}
use Rattle.rmt_entries.specs.declared.entry.Entry.TheVariants.{Get, Merge, Mutate, Mutation, DropRange}
use Rattle.rmt_block.specs.Blocks.{BlockView}
use Rattle.rmt_model.specs.Words.{Has, Each}
use Rattle.rmt_model.specs.Content.{Row, content, rows, snapshot}
use Rattle.rmt_model.specs.CopiedParts.{Copied, IsCopied, names_of}
use Rattle.rmt_model.specs.Lawful.{IsPrefix, Lawful, MakesAt}
use Rattle.rmt_model.specs.Live.{live, made}
use Rattle.rmt_model.specs.Parts.{IsOf, NumberedBlock}
use Rattle.rmt_model.proofs.Lists.{Each-all, Each-at}
use Rattle.rmt_model.proofs.Drained.{fair-live}
use Rattle.rmt_model.proofs.VersionLaws.{made-sized}
use Rattle.rmt_part.specs.Lineages.{AcceptedView, IsGetOf, PartValue, numbered}
use Rattle.rmt_part.specs.CopiedPart.{copied}
use Rattle.rmt_events.specs.Views.{Block, Replica}
use Rattle.rmt_events.specs.Clusters.{Accepted, rows_at, without_kinds}
use Rattle.rmt_events.specs.ReplicaCalls.{IsDrained, IsStanding}
use Rattle.rmt_events.specs.Shown.{contents, names_and_rows, read_rows}
use Rattle.rmt_events.proofs.Copies.{content-of-lineage, made-at, part-behind}
use Rattle.rmt_events.proofs.Converge.{one-front, read-snapshot, shown-contents}
use Rattle.rmt_laws.proofs.Headline.{reads-plain-rows}
use Rattle.rmt_replica.specs.Parts.{IsMadeIn}
use Rattle.rmt_replica.specs.Replicas.{IsStandingReplica, ReplicaView}
use Rattle.rmt_replica.specs.SeenReplica.{shown}
use Rattle.rmt_replica.proofs.StateViews.{Each-mapped, standing-seen}
use Rattle.rmt_clients.specs.Clients.{AreAccepted, AreClear}
use Rattle.rmt_clients.proofs.OfferedBlocks.{IsOfferedAs, rows-offered}
use Rattle.rmt_shared.specs.SharedReplicas.{IsMadeOf}
use Rattle.rmt_play.specs.Shown.{AgreesOn}

-- ---- one replica

-- a replica is standing, its copy is a prefix of the log, and its parts are made of offered blocks
pub record StandsAmong (O : Block → Type 0) (schema : Shape) (log : List Entry) (x : Replica) : Type 0 where
  pub stands : IsStanding schema x
  pub prefix : IsPrefix x.log log
  pub offered : Each (λ part. Each (IsOfferedAs O part.name.partition) part.lineage) x.parts

module _ (O : Block → Type 0) (clear : AreClear O) (schema : Shape) (log : List Entry) (blocks : List Accepted) (l : Lawful schema log) (a : AreAccepted O log blocks) where
  -- each part has the content of its name, in the copy
  content-here : (x : Replica) → StandsAmong O schema log x → (part : Copied) → Has x.parts part → part.rows ≡ content schema x.log (rows_at blocks) part.name
  content-here x s part h = i.holds ∙ content-of-lineage schema x.log (rows_at blocks) part.name part.lineage i.lineage theirs (made-sized schema x.log part.name s.stands.lawful first)
    where
      both : MakesAt x.log part.place part.name × IsCopied schema x.log part
      both = Each-at (λ p. MakesAt x.log p.place p.name × IsCopied schema x.log p) x.parts part s.stands.parts h

      i : IsCopied schema x.log part
      i = both.1

      first : Has (made x.log) part.name
      first = made-at x.log part.place part.name both.0

      there : IsCopied schema log part
      there = subst (λ (z : List Entry). IsCopied schema z part) (sym s.prefix.is) (part-behind schema s.prefix.gained x.log part (subst (Lawful schema) s.prefix.is l) first i)

      theirs : Each (λ b. rows_at blocks part.name.partition b.number ≡ b.rows) part.lineage
      theirs = Each-all (λ b. rows_at blocks part.name.partition b.number ≡ b.rows) part.lineage (λ b k. one b (Each-at (λ y. Spans part.name part.name.partition y.number × IsOf log part.name.partition y) part.lineage b there.lineage.within k).1 (Each-at (IsOfferedAs O part.name.partition) part.lineage b (Each-at (λ y. Each (IsOfferedAs O y.name.partition) y.lineage) x.parts part s.offered h) k))
        where
          one : (b : NumberedBlock) → IsOf log part.name.partition b → IsOfferedAs O part.name.partition b → rows_at blocks part.name.partition b.number ≡ b.rows
          one b g o = rows-offered O clear schema log blocks l a part.name.partition b.number g.source g.need b.digest g.entry (record { partition = part.name.partition; digest = b.digest; rows = b.rows }) o.offered refl refl

  -- a drained one has the live names
  live-here : (x : Replica) → StandsAmong O schema log x → IsDrained x → names_of x.parts ≡ live x.log
  live-here x s d = fair-live schema x.log _ (names_of x.parts) s.stands.lawful s.stands.fair d

  contents-here : (x : Replica) → StandsAmong O schema log x → IsDrained x → names_and_rows x.parts ≡ contents schema x.log (rows_at blocks) (live x.log)
  contents-here x s d = shown-contents schema x.log (rows_at blocks) x.parts (content-here x s) ∙ ap (contents schema x.log (rows_at blocks)) (live-here x s d)

  reads-here : (x : Replica) → StandsAmong O schema log x → IsDrained x → SameBag (read_rows x.log x.parts) (rows x.log (rows_at blocks))
  reads-here x s d =
      let e = read-snapshot schema x.log (rows_at blocks) x.parts (content-here x s) ∙ ap (snapshot schema x.log (rows_at blocks)) (live-here x s d) in
      subst (λ (xs : List Row). SameBag xs (rows x.log (rows_at blocks))) (sym e) (reads-plain-rows schema x.log s.stands.lawful (rows_at blocks))

  equal-here : (x y : Replica) → StandsAmong O schema log x → StandsAmong O schema log y → IsDrained x → IsDrained y → length x.log ≡ length y.log → names_and_rows x.parts ≡ names_and_rows y.parts
  equal-here x y s t d e q =
      let same : x.log ≡ y.log = one-front x.log y.log log s.prefix t.prefix q in
      contents-here x s d ∙ (ap (λ (z : List Entry). contents schema z (rows_at blocks) (live z)) same ∙ sym (contents-here y t e))

  pub agree-here : (xs : List Replica) → ((x : Replica) → Has xs x → StandsAmong O schema log x) → AgreesOn xs blocks
  agree-here xs f = record {
    equal = λ x y h k d e q. equal-here x y (f x h) (f y k) d e q;
    plain = λ x h d. reads-here x (f x h) d;
  }

-- ---- as they are kept

got-partition : (e : Entry) (q : Option ℕ) (b : BlockView) → IsGetOf e q b → b.partition ≡ q
got-partition (Get p n digest source need) q b g = g.1
got-partition (Merge new sources count) q b g = absurd g
got-partition (Mutate old new upto count mcount) q b g = absurd g
got-partition (Mutation id numbers command) q b g = absurd g
got-partition (DropRange p n) q b g = absurd g

offered-as : (O : Block → Type 0) (p : Option ℕ) (blocks : List AcceptedView) → Each (λ b. IsGetOf b.get.value p b.block) blocks → Each (λ b. O (without_kinds b.block)) blocks → Each (IsOfferedAs O p) (map numbered blocks)
offered-as O p [] g o = tt
offered-as O p (b ∷ blocks) g o = (
  record { offered = subst (λ (q : Option ℕ). O (record { partition = q; digest = b.block.digest; rows = b.block.rows })) (got-partition b.get.value p b.block g.0) o.0 },
  offered-as O p blocks g.1 o.1,
)

pub stands-among : (O : Block → Type 0) (schema : Shape) (log : List Entry) (r : ReplicaView) → IsStandingReplica r → r.schema ≡ schema → IsPrefix r.log log → Each (IsMadeOf O) r.parts → StandsAmong O schema log (shown r)
stands-among O schema log r s e f o = record {
  stands = subst (λ (z : Shape). IsStanding z (shown r)) e (standing-seen r s);
  prefix = f;
  offered = Each-mapped (λ (part : Copied). Each (IsOfferedAs O part.name.partition) part.lineage) copied r.parts
      (Each-all (λ (part : PartValue). Each (IsOfferedAs O part.name.partition) (map numbered part.blocks)) r.parts (λ part i.
      offered-as O part.name.partition part.blocks (Each-at (IsMadeIn r.schema r.log) r.parts part s.made i).is_part.gets (Each-at (IsMadeOf O) r.parts part o i)));
}
