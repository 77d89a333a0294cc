-- What a client's steps need of the parts that it may read.
use Rattle.std.proofs.Common.{◌≡◌, ℕ, ◌≤◌, ◌<◌, ◌^◌, zero, suc, Bool, true, false, not, cond, List, [], ◌∷◌, map, filter, length, refl, sym, ap, subst, arith, ◌∙◌}
use Rattle.std.specs.List.{All}
use Rattle.std.specs.declared.option.Option.{Option}
use Rattle.std.specs.declared.option.Option.TheVariants.{Some}
use Rattle.std.specs.declared.result.Result.TheVariants.{Ok, Err}
use Rattle.rmt_values.specs.Rows.{Shape}
use Rattle.rmt_names.specs.Names.{Name}
use Rattle.rmt_entries.specs.declared.entry.Entry.{Entry}
use Rattle.rmt_entries.specs.declared.entry.Entry.TheVariants.{Get, Merge, Mutate, Mutation, DropRange}
use Rattle.rmt_block.specs.Blocks.{BlockView}
use Rattle.rmt_granules.specs.Granules.{PartView}
use Rattle.rmt_granules.specs.MadePart.{data_of}
use Rattle.rmt_model.specs.Words.{Each}
use Rattle.rmt_model.specs.Content.{Row}
use Rattle.rmt_model.specs.Lawful.{Lawful, is_mutation}
use Rattle.rmt_model.specs.EntryLimits.{worker_count}
use Rattle.rmt_model.specs.CopiedParts.{Copied, names_of}
use Rattle.rmt_model.proofs.Lists.{Each-at, Each-all}
use Rattle.rmt_part.specs.Lineages.{AcceptedView, PartValue, IsGetOf, numbered}
use Rattle.rmt_part.specs.CopiedPart.{copied}
use Rattle.rmt_partset.specs.ActiveParts.{shown}
use Rattle.rmt_partset.specs.Snapshots.{NamedData, names_in}
use Rattle.rmt_query.specs.Answers.{answer_of}
use Rattle.rmt_query.specs.ReadRows.{rows_read}
use Rattle.rmt_reply.specs.declared.refusal.Refusal.{Refusal}
use Rattle.rmt_format.specs.PartBytes.{HasPartBytes}
use Rattle.rmt_compact.proofs.SentLemmas.{part-has}
use Rattle.rmt_events.specs.Views.{Block}
use Rattle.rmt_events.specs.Clusters.{without_kinds}
use Rattle.rmt_events.specs.ReplicaCalls.{IsStanding}
use Rattle.rmt_statement_model.specs.TableStates.{covered_by, shown_at}
use Rattle.rmt_statement_model.specs.Reads.{LacksLast, waiting_part, covers_part, without_part}
use Rattle.rmt_statement_model.specs.ActOutcomes.{ReadsParts, ReadsQuorum}
use Rattle.rmt_clients.specs.Clients.{Client, KnowsTable, StepsTo, known_table}
use Rattle.rmt_clients.specs.ClientReadings.{IsChecked}
use Rattle.rmt_clients.proofs.ClientRests.{steps-now}
use Rattle.rmt_clients.proofs.OfferedBlocks.{IsOfferedAs}
use Rattle.rmt_clients.proofs.ClientReadings.{ChecksHere, read_as, read-names, read-here, parts_without, checked-in-quorum, lacks-last, shown-here}
use Rattle.rmt_replica.specs.Parts.{IsMadeIn}
use Rattle.rmt_replica.specs.Replicas.{ReplicaView}
use Rattle.rmt_replica.specs.SeenReplica as seen
use Rattle.rmt_replica.proofs.StateViews.{names-shown, Each-mapped, standing-seen}
use Rattle.rmt_sequential.proofs.KeptParts.{names-kept}
use Rattle.rmt_readings.specs.Readable.{IsReadable}
use Rattle.rmt_readings.specs.QuorumParts.{AreInQuorum, LacksCover}

-- ---- the replica as events see it

got-partition : (e : Entry) (q : Option ℕ) (b : BlockView) → IsGetOf e q b → b.partition ≡ q
got-partition (Get p n digest source need) q b g = g.1
got-partition (Merge new sources count) q b g = absurd g
got-partition (Mutate old new upto count mcount) q b g = absurd g
got-partition (Mutation id numbers command) q b g = absurd g
got-partition (DropRange p n) q b g = absurd g

-- blocks of a part that are offered ones
offered-as : (O : Block → Type 0) (p : Option ℕ) (blocks : List AcceptedView) → Each (λ b. IsGetOf b.get.value p b.block) blocks → Each (λ b. O (without_kinds b.block)) blocks → Each (IsOfferedAs O p) (map numbered blocks)
offered-as O p [] g o = tt
offered-as O p (b ∷ blocks) g o = (
  record { offered = subst (λ (q : Option ℕ). O (record { partition = q; digest = b.block.digest; rows = b.block.rows })) (got-partition b.get.value p b.block g.0) o.0 },
  offered-as O p blocks g.1 o.1,
)

-- each block that the replica's parts were made from is one of these
abbrev pub AreMadeOf : (Block → Type 0) → ReplicaView → Type 0
AreMadeOf O r = Each (λ part. Each (λ b. O (without_kinds b.block)) part.blocks) r.parts

-- a part's data is its rows in granules
read-body : (schema : Shape) (log : List Entry) (p : PartValue) → IsMadeIn schema log p → p.body ≡ data_of schema p.body.rows
read-body schema log p m =
    let c = m.is_part.content in
    c ∙ (ap (λ (rows : List Row). data_of p.schema rows) (sym (ap (λ (d : PartView). d.rows) c)) ∙ ap (λ (z : Shape). data_of z p.body.rows) m.of_schema)

read-parts : (schema : Shape) (log : List Entry) (parts : List PartValue) → Each (IsMadeIn schema log) parts → shown parts ≡ map (read_as schema) (map copied parts)
read-parts schema log [] m = refl
read-parts schema log (p ∷ parts) m =
    ap (λ (b : PartView). record { name = p.name; rows = b } ∷ shown parts) (read-body schema log p m.0)
    ∙ ap (λ (xs : List NamedData). record { name = p.name; rows = data_of schema p.body.rows } ∷ xs) (read-parts schema log parts m.1)

-- filters of parts by their names
kept-read : (schema : Shape) (keep : Name → Bool) (parts : List Copied) → filter (λ (p : NamedData). keep p.name) (map (read_as schema) parts) ≡ map (read_as schema) (filter (λ part. keep part.name) parts)
kept-read schema keep [] = refl
kept-read schema keep (p ∷ parts) = go (keep p.name) (kept-read schema keep parts)
  where
    go : (b : Bool) → filter (λ (x : NamedData). keep x.name) (map (read_as schema) parts) ≡ map (read_as schema) (filter (λ part. keep part.name) parts)
        → cond b (read_as schema p ∷ filter (λ (x : NamedData). keep x.name) (map (read_as schema) parts)) (filter (λ (x : NamedData). keep x.name) (map (read_as schema) parts)) ≡ map (read_as schema) (cond b (p ∷ filter (λ part. keep part.name) parts) (filter (λ part. keep part.name) parts))
    go true e = ap (λ (xs : List NamedData). read_as schema p ∷ xs) e
    go false e = e

-- ---- steps

module _ (O : Block → Type 0) (p : Client) (r : ReplicaView) (parts : List NamedData) (lawful : Lawful p.schema p.log) (schema : r.schema ≡ p.schema) (offered : AreMadeOf O r) (h : IsReadable p r parts) where
  checks : ChecksHere O p r.number (seen.shown r)
  checks = record {
    lawful = lawful;
    stands = subst (λ (s : Shape). IsStanding s (seen.shown r)) schema (standing-seen r h.standing);
    prefix = h.prefix;
    offered = Each-mapped (λ (part : Copied). Each (IsOfferedAs O part.name.partition) part.lineage) copied r.parts
        (Each-all (λ (part : PartValue). Each (IsOfferedAs O part.name.partition) (map numbered part.blocks)) r.parts (λ part i.
        offered-as O part.name.partition part.blocks (Each-at (IsMadeIn r.schema r.log) r.parts part h.standing.made i).is_part.gets (Each-at (λ (x : PartValue). Each (λ b. O (without_kinds b.block)) x.blocks) r.parts part offered i)));
    checked = subst (λ (names : List Name). IsChecked p.log (p.known r.number) names) (sym (names-shown r.parts)) h.checked;
  }

  as-read : parts ≡ map (read_as p.schema) (seen.shown r).parts
  as-read = h.parts_shown ∙ (read-parts r.schema r.log r.parts h.standing.made ∙ ap (λ (s : Shape). map (read_as s) (map copied r.parts)) schema)

  as-named : names_in parts ≡ names_of (seen.shown r).parts
  as-named = ap names_in as-read ∙ read-names p.schema (seen.shown r).parts

  -- the parts are read, and what they hold is known then
  pub reads-step : (q : Client) → KnowsTable q (shown_at r.number (names_in parts) (known_table p)) → StepsTo O p (ReadsParts r.number parts) q
  reads-step q k = subst (λ (ps : List NamedData). StepsTo O p (ReadsParts r.number ps) q) (sym as-read) (λ clear.
      let all : List NamedData = map (read_as p.schema) (seen.shown r).parts in
      let m = subst (λ (ps : List NamedData). KnowsTable q (shown_at r.number (names_in ps) (known_table p))) as-read k in
      steps-now O p q (ReadsParts r.number all) (λ at f.
      let c = read-here O clear p r.number (seen.shown r) q checks (record { after = m }) at f in
      record { after = c.after; change = record { reading = c.change.reading; change = c.change.change }; fits = c.fits }))

  -- those that are in a quorum, where there are enough
  pub reads-quorum-step : (q : Client) (kept : List NamedData) → AreInQuorum p.quorum parts kept → KnowsTable q (shown_at r.number (names_in kept) (known_table p)) → StepsTo O p (ReadsQuorum r.number (Ok kept)) q
  reads-quorum-step q kept z k = subst (λ (ps : List NamedData). StepsTo O p (ReadsQuorum r.number (Ok ps)) q) (sym as-kept) (λ clear.
      let m = subst (λ (ps : List NamedData). KnowsTable q (shown_at r.number (names_in ps) (known_table p))) as-kept k in
      steps-now O p q (ReadsQuorum r.number (Ok some)) (λ at f.
      let c = shown-here O p r.number (names_in some) q (record { after = m }) at f in
      record {
        after = c.after;
        change = record { reading = checked-in-quorum O clear p r.number (seen.shown r) checks (record { last = λ part l. subst (λ (ns : List Name). covered_by ns (Some part) ≡ true) names (z.last part l) }) at f; change = c.change };
        fits = c.fits;
      }))
    where
      some : List NamedData
      some = map (read_as p.schema) (parts_without (waiting_part p.quorum) (seen.shown r).parts)

      as-kept : kept ≡ some
      as-kept = z.left ∙ (ap (filter (λ (x : NamedData). not (covers_part (waiting_part p.quorum) x.name))) as-read ∙ kept-read p.schema (λ a. not (covers_part (waiting_part p.quorum) a)) (seen.shown r).parts)

      names : names_in kept ≡ without_part (waiting_part p.quorum) (names_of (seen.shown r).parts)
      names = ap names_in z.left ∙ (names-kept (waiting_part p.quorum) parts ∙ ap (without_part (waiting_part p.quorum)) as-named)

  -- or none of them covers the last part whose quorum was met
  pub lacks-quorum-step : (why : Refusal) → LacksCover p.quorum parts why → StepsTo O p (ReadsQuorum r.number (Err why)) p
  lacks-quorum-step why z clear = steps-now O p p (ReadsQuorum r.number (Err why)) (λ at f. record {
    after = at;
    change = record {
      lacks = subst (LacksLast at r.number) (sym z.reply) (lacks-last O p r.number (seen.shown r) z.part checks z.last (subst (λ (ns : List Name). covered_by (without_part (waiting_part p.quorum) ns) (Some z.part) ≡ false) as-named z.uncovered) at f);
      unchanged = refl;
    };
    fits = f;
  })

  -- ---- their keys

  keys-read : (s : Shape) (xs : List Copied) → All (λ (part : NamedData). part.rows.key ≡ s.key) (map (read_as s) xs)
  keys-read s [] k d l = absurd (omega (arith, l))
  keys-read s (x ∷ xs) zero d l = refl
  keys-read s (x ∷ xs) (suc k) d l = keys-read s xs k d (omega (arith, l))

  -- ---- their bytes

  have-bytes : (s : Shape) (log : List Entry) (xs : List PartValue) → Each (IsMadeIn s log) xs → Each (λ (part : NamedData). length part.rows.rows < 2 ^ 32) (shown xs) → All (λ (part : NamedData). HasPartBytes s part.rows) (shown xs)
  have-bytes s log [] m f k d l = absurd (omega (arith, l))
  have-bytes s log (x ∷ xs) m f zero d l = part-has s x m.0.is_part m.0.of_schema f.0
  have-bytes s log (x ∷ xs) m f (suc k) d l = have-bytes s log xs m.1 f.1 k d (omega (arith, l))

  pub bytes : All (λ (part : NamedData). HasPartBytes p.schema part.rows) parts
  bytes = subst (λ (s : Shape). All (λ (part : NamedData). HasPartBytes s part.rows) parts) schema
      (subst (λ (ps : List NamedData). All (λ (part : NamedData). HasPartBytes r.schema part.rows) ps) (sym h.parts_shown)
      (have-bytes r.schema r.log r.parts h.standing.made (subst (λ (ps : List NamedData). Each (λ (part : NamedData). length part.rows.rows < 2 ^ 32) ps) h.parts_shown h.few)))

  pub keys : All (λ (part : NamedData). part.rows.key ≡ p.schema.key) parts
  keys = subst (λ (ps : List NamedData). All (λ (part : NamedData). part.rows.key ≡ p.schema.key) ps) (sym as-read) (keys-read p.schema (seen.shown r).parts)
