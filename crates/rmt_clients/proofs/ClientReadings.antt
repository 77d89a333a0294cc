-- What a client reads at a replica: the check of a snapshot under the lock is all that has to be known.
use Rattle.std.proofs.Common.{◌≡◌, ℕ, ◌≤◌, inl, inr, Bool, true, false, not, List, [], ◌∷◌, ◌++◌, length, map, arith, filter, refl, sym, ap, subst, ◌∙◌}
use Rattle.std.specs.List.{filter_map}
use Rattle.std.specs.declared.option.Option.{Option}
use Rattle.std.specs.declared.option.Option.TheVariants.{Some}
use Rattle.rmt_values.specs.Rows.{Shape}
use Rattle.rmt_values.specs.Order.{SameBag}
use Rattle.rmt_names.specs.Names.{Name}
use Rattle.rmt_entries.specs.declared.entry.Entry.{Entry}
use Rattle.rmt_entries.specs.declared.entry.Entry.TheVariants.{Get, Merge, Mutate, Mutation, DropRange}
use Rattle.rmt_granules.specs.Granules.{PartView}
use Rattle.rmt_granules.specs.MadePart.{data_of}
use Rattle.rmt_model.specs.Words.{Has, Each}
use Rattle.rmt_model.specs.Live.{made}
use Rattle.rmt_model.specs.Lawful.{Lawful, IsPrefix, MakesAt, is_mutation}
use Rattle.rmt_model.specs.Content.{Row, Blocks, content, snapshot}
use Rattle.rmt_model.specs.EntryLimits.{is_client}
use Rattle.rmt_model.specs.Fair.{MadeAtMark, DroppedAtMark, AreFair, AllMarked}
use Rattle.rmt_model.specs.CopiedParts.{Copied, IsCopied, names_of}
use Rattle.rmt_model.proofs.Lists.{Each-at, Each-all, Has-filter}
use Rattle.rmt_partset.specs.Snapshots.{NamedData, names_in, data_in}
use Rattle.rmt_query.specs.ReadRows.{row_read, rows_read}
use Rattle.rmt_reply.specs.declared.refusal.Refusal.{Refusal}
use Rattle.rmt_reply.specs.declared.refusal.Refusal.TheVariants.{NotInQuorum}
use Rattle.rmt_events.specs.Views.{Block, Replica}
use Rattle.rmt_events.specs.Clusters.{Accepted, rows_at}
use Rattle.rmt_events.specs.ReplicaCalls.{IsStanding}
use Rattle.rmt_events.proofs.Copies.{made-behind, dropped-behind}
use Rattle.rmt_statement_model.specs.TableStates.{TableState, data_at, plain_rows, shown_at, covered_by}
use Rattle.rmt_statement_model.specs.BackgroundWork.{IsOfWorker, quorum_after_notes}
use Rattle.rmt_statement_model.proofs.ReadLaws.{all-mutations-read}
use Rattle.rmt_statement_model.proofs.WorkerEntries.{not-client}
use Rattle.rmt_statement_model.specs.Reads.{IsReading, IsSequentialReading, LacksLast, waiting_part, covers_part, without_part}
use Rattle.rmt_clients.specs.Clients.{Client, known_table, KnowsTable, AreAccepted, AreClear, Fits, seeing, ClientsMarked, ChangesInto, RestsAnd, SeesHere}
use Rattle.rmt_clients.specs.ClientReadings.{IsChecked}
use Rattle.rmt_clients.proofs.ClientRests.{fits-all, fits-as, knows-fits, rests-and}
use Rattle.rmt_clients.proofs.OfferedBlocks.{IsOfferedAs, part-content}
use Rattle.rmt_clients.proofs.ClientReads.{reads-plain-names}

-- ---- parts as a query reads them

-- a part with its name, and its rows in granules
abbrev pub read_as : Shape → Copied → NamedData
read_as schema part = record { name = part.name; rows = data_of schema part.rows }

pub read-names : (schema : Shape) (parts : List Copied) → names_in (map (read_as schema) parts) ≡ names_of parts
read-names schema [] = refl
read-names schema (part ∷ parts) = ap (λ (xs : List Name). part.name ∷ xs) (read-names schema parts)

read-data : (schema : Shape) (log : List Entry) (blocks : Blocks) (parts : List Copied) → ((part : Copied) → Has parts part → part.rows ≡ content schema log blocks part.name) → data_in (map (read_as schema) parts) ≡ map (λ a. data_of schema (content schema log blocks a)) (names_of parts)
read-data schema log blocks [] h = refl
read-data schema log blocks (part ∷ parts) h =
    ap (λ (v : PartView). v ∷ data_in (map (read_as schema) parts)) (ap (data_of schema) (h part (inl refl)))
    ∙ ap (λ (xs : List PartView). data_of schema (content schema log blocks part.name) ∷ xs) (read-data schema log blocks parts (λ p i. h p (inr i)))

-- the parts that don't cover the one that waits
abbrev pub parts_without : Option Name → List Copied → List Copied
parts_without waiting parts = filter (λ part. not (covers_part waiting part.name)) parts

names-without : (waiting : Option Name) (parts : List Copied) → names_of (parts_without waiting parts) ≡ without_part waiting (names_of parts)
names-without waiting [] = refl
names-without waiting (part ∷ parts) = go (not (covers_part waiting part.name)) refl (names-without waiting parts)
  where
    go : (b : Bool) → not (covers_part waiting part.name) ≡ b → names_of (parts_without waiting parts) ≡ without_part waiting (names_of parts) → names_of (parts_without waiting (part ∷ parts)) ≡ without_part waiting (names_of (part ∷ parts))
    go true e i = rw e (ap (λ (xs : List Name). part.name ∷ xs) i)
    go false e i = rw e i

-- ---- the check

-- a standing replica whose copy is a prefix of the client's log, whose blocks are offered ones, and whose active parts are checked
pub record ChecksHere (O : Block → Type 0) (p : Client) (r : ℕ) (x : Replica) : Type 0 where
  pub lawful : Lawful p.schema p.log
  pub stands : IsStanding p.schema x
  pub prefix : IsPrefix x.log p.log
  pub offered : Each (λ part. Each (IsOfferedAs O part.name.partition) part.lineage) x.parts
  pub checked : IsChecked p.log (p.known r) (names_of x.parts)

-- the names of its parts are fair for the places that are known there
pub checked-fair : (O : Block → Type 0) (p : Client) (r : ℕ) (x : Replica) → ChecksHere O p r x → AreFair p.log (p.known r) (names_of x.parts)
checked-fair O p r x h = record {
  apart = h.stands.fair.apart;
  made_here = each-made (names_of x.parts) h.stands.fair.made_here;
  kept = h.checked.kept;
  answered = h.checked.answered;
}
  where
    each-made : (names : List Name) → Each (λ b. Has (made x.log) b) names → Each (λ b. Has (made p.log) b) names
    each-made [] e = tt
    each-made (b ∷ names) e = (subst (λ (z : List Entry). Has (made z) b) (sym h.prefix.is) (made-behind h.prefix.gained x.log b e.0), each-made names e.1)

-- and each part holds the content of its name
pub checked-content : (O : Block → Type 0) → AreClear O → (p : Client) (r : ℕ) (x : Replica) (blocks : List Accepted) → ChecksHere O p r x → AreAccepted O p.log blocks → (part : Copied) → Has x.parts part → part.rows ≡ content p.schema p.log (rows_at blocks) part.name
checked-content O clear p r x blocks h a part i =
    let here : MakesAt x.log part.place part.name × IsCopied p.schema x.log part = Each-at (λ y. MakesAt x.log y.place y.name × IsCopied p.schema x.log y) x.parts part h.stands.parts i in
    part-content O clear p.schema x.log p.log blocks h.lawful h.prefix a part here.0 here.1 (Each-at (λ y. Each (IsOfferedAs O y.name.partition) y.lineage) x.parts part h.offered i)

-- ---- SELECT

-- the parts of such a replica are a reading
pub checked-reads : (O : Block → Type 0) → AreClear O → (p : Client) (r : ℕ) (x : Replica) → ChecksHere O p r x → (t : TableState) → Fits O p t → IsReading t r (map (read_as p.schema) x.parts)
checked-reads O clear p r x h = fits-all O p (λ (t : TableState). IsReading t r (map (read_as p.schema) x.parts)) (λ blocks a. record {
  fair = subst (AreFair p.log (p.known r)) (sym (read-names p.schema x.parts)) (checked-fair O p r x h);
  holds = read-data p.schema p.log (rows_at blocks) x.parts (checked-content O clear p r x blocks h a)
      ∙ ap (map (data_at (record (known_table p) { blocks = blocks }))) (sym (read-names p.schema x.parts));
})

-- what names hold is known at the replica then
pub record MarksShown (p : Client) (r : ℕ) (names : List Name) (q : Client) : Type 0 where
  pub after : KnowsTable q (shown_at r names (known_table p))

pub shown-here : (O : Block → Type 0) (p : Client) (r : ℕ) (names : List Name) (q : Client) → MarksShown p r names q → (t : TableState) → Fits O p t → ChangesInto O q (λ u. u ≡ shown_at r names t)
shown-here O p r names q h = fits-all O p (λ (t : TableState). ChangesInto O q (λ u. u ≡ shown_at r names t)) (λ blocks a. record {
  after = shown_at r names (record (known_table p) { blocks = blocks });
  change = refl;
  fits = knows-fits O q (shown_at r names (known_table p)) blocks h.after a;
})

-- parts are read, and what they hold is known then
pub record ReadsShown (r : ℕ) (parts : List NamedData) (t u : TableState) : Type 0 where
  pub reading : IsReading t r parts
  pub change : u ≡ shown_at r (names_in parts) t

pub read-here : (O : Block → Type 0) → AreClear O → (p : Client) (r : ℕ) (x : Replica) (q : Client) → ChecksHere O p r x → MarksShown p r (names_in (map (read_as p.schema) x.parts)) q → (t : TableState) → Fits O p t → ChangesInto O q (ReadsShown r (map (read_as p.schema) x.parts) t)
read-here O clear p r x q h m t f =
    let s = shown-here O p r (names_in (map (read_as p.schema) x.parts)) q m t f in
    record { after = s.after; change = record { reading = checked-reads O clear p r x h t f; change = s.change }; fits = s.fits }

-- the parts of a replica are read among workers
pub shown : (O : Block → Type 0) → AreClear O → (p : Client) (r : ℕ) (x : Replica) (gained : List Entry) (noted : List ℕ) (q : Client) → SeesHere p gained → ChecksHere O (seeing gained noted p) r x → MarksShown (seeing gained noted p) r (names_in (map (read_as p.schema) x.parts)) q → (t : TableState) → Fits O p t → RestsAnd O q (ReadsShown r (map (read_as p.schema) x.parts)) t
shown O clear p r x gained noted q s h m = rests-and O p q gained noted (ReadsShown r (map (read_as p.schema) x.parts)) s (read-here O clear (seeing gained noted p) r x q h m)

-- ---- SELECT of what is in a quorum

-- one of the parts covers the last part whose quorum was met, where there is one
pub record CoversLast (p : Client) (x : Replica) : Type 0 where
  pub last : (part : Name) → p.quorum.last ≡ Some part → covered_by (without_part (waiting_part p.quorum) (names_of x.parts)) (Some part) ≡ true

-- the parts that don't cover the one that waits are a reading of what is in a quorum
pub checked-in-quorum : (O : Block → Type 0) → AreClear O → (p : Client) (r : ℕ) (x : Replica) → ChecksHere O p r x → CoversLast p x → (t : TableState) → Fits O p t → IsSequentialReading t r (map (read_as p.schema) (parts_without (waiting_part p.quorum) x.parts))
checked-in-quorum O clear p r x h c = fits-all O p (λ (t : TableState). IsSequentialReading t r (map (read_as p.schema) (parts_without (waiting_part p.quorum) x.parts))) (λ blocks a. record {
  active = names_of x.parts;
  fair = checked-fair O p r x h;
  read = names;
  last = λ part e. subst (λ (ns : List Name). covered_by ns (Some part) ≡ true) (sym names) (c.last part e);
  holds = read-data p.schema p.log (rows_at blocks) some (λ part i. checked-content O clear p r x blocks h a part (Has-filter (λ y. not (covers_part (waiting_part p.quorum) y.name)) x.parts part i).0)
      ∙ ap (map (data_at (record (known_table p) { blocks = blocks }))) (sym (read-names p.schema some));
})
  where
    some : List Copied
    some = parts_without (waiting_part p.quorum) x.parts

    names : names_in (map (read_as p.schema) some) ≡ without_part (waiting_part p.quorum) (names_of x.parts)
    names = read-names p.schema some ∙ names-without (waiting_part p.quorum) x.parts

-- none of them covers it
pub lacks-last : (O : Block → Type 0) (p : Client) (r : ℕ) (x : Replica) (part : Name) → ChecksHere O p r x → p.quorum.last ≡ Some part → covered_by (without_part (waiting_part p.quorum) (names_of x.parts)) (Some part) ≡ false → (t : TableState) → Fits O p t → LacksLast t r (NotInQuorum part)
lacks-last O p r x part h e u = fits-all O p (λ (t : TableState). LacksLast t r (NotInQuorum part)) (λ blocks a. record {
  active = names_of x.parts;
  fair = checked-fair O p r x h;
  part = part;
  last = e;
  uncovered = u;
  reply = refl;
})

-- parts that are in a quorum are read, and what they hold is known then
pub record ReadsShownInQuorum (r : ℕ) (parts : List NamedData) (t u : TableState) : Type 0 where
  pub reading : IsSequentialReading t r parts
  pub change : u ≡ shown_at r (names_in parts) t

-- they are read among workers
pub shown-in-quorum : (O : Block → Type 0) → AreClear O → (p : Client) (r : ℕ) (x : Replica) (gained : List Entry) (noted : List ℕ) (parts : List NamedData) (q : Client) → SeesHere p gained → ChecksHere O (seeing gained noted p) r x → CoversLast (seeing gained noted p) x → parts ≡ map (read_as p.schema) (parts_without (waiting_part (quorum_after_notes noted p.quorum)) x.parts) → MarksShown (seeing gained noted p) r (names_in parts) q → (t : TableState) → Fits O p t → RestsAnd O q (ReadsShownInQuorum r parts) t
shown-in-quorum O clear p r x gained noted parts q s h c e m = rests-and O p q gained noted (ReadsShownInQuorum r parts) s (λ at f.
    let u = shown-here O (seeing gained noted p) r (names_in parts) q m at f in
    record {
      after = u.after;
      change = record { reading = subst (IsSequentialReading at r) (sym e) (checked-in-quorum O clear (seeing gained noted p) r x h c at f); change = u.change };
      fits = u.fits;
    })

-- none of them covers the last part whose quorum was met, and nothing changes
pub record ReadsNoneInQuorum (r : ℕ) (refusal : Refusal) (t u : TableState) : Type 0 where
  pub lacks : LacksLast t r refusal
  pub unchanged : u ≡ t

-- they are refused among workers
pub none-in-quorum : (O : Block → Type 0) (p : Client) (r : ℕ) (x : Replica) (part : Name) (gained : List Entry) (noted : List ℕ) (q : Client) → SeesHere p gained → ChecksHere O (seeing gained noted p) r x → (seeing gained noted p).quorum.last ≡ Some part → covered_by (without_part (waiting_part (quorum_after_notes noted p.quorum)) (names_of x.parts)) (Some part) ≡ false → KnowsTable q (known_table (seeing gained noted p)) → (t : TableState) → Fits O p t → RestsAnd O q (ReadsNoneInQuorum r (NotInQuorum part)) t
none-in-quorum O p r x part gained noted q s h e c k = rests-and O p q gained noted (ReadsNoneInQuorum r (NotInQuorum part)) s (λ at f.
    record {
      after = at;
      change = record { lacks = lacks-last O (seeing gained noted p) r x part h e c at f; unchanged = refl };
      fits = fits-as O (seeing gained noted p) q k at f;
    })

-- ---- SELECT .. SYNC

-- parts that hold the contents of their names are read as the snapshot of these names
read-snapshot : (schema : Shape) (log : List Entry) (blocks : Blocks) (parts : List NamedData) → data_in parts ≡ map (λ a. data_of schema (content schema log blocks a)) (names_in parts) → rows_read log parts ≡ snapshot schema log blocks (names_in parts)
read-snapshot schema log blocks [] e = refl
read-snapshot schema log blocks (part ∷ parts) e =
    let first : part.rows ≡ data_of schema (content schema log blocks part.name) = cc in
    let others : data_in parts ≡ map (λ a. data_of schema (content schema log blocks a)) (names_in parts) = cc in
    ap (λ (v : PartView). filter_map (row_read log part.name) v.rows ++ rows_read log parts) first
    ∙ ap (λ (xs : List Row). filter_map (row_read log part.name) (content schema log blocks part.name) ++ xs) (read-snapshot schema log blocks parts others)

-- where each entry of a client is known, the rows that are read are the plain ones: entries of workers may be unknown
pub client-read : (t : TableState) (k : ℕ) (parts : List NamedData) → Lawful t.schema t.log → IsReading t k parts → ClientsMarked t.log (t.known k) → SameBag (rows_read t.log parts) (plain_rows t)
client-read t k parts l r clients =
    subst (λ (xs : List Row). SameBag xs (plain_rows t)) (sym (read-snapshot t.schema t.log (rows_at t.blocks) parts r.holds))
    (reads-plain-names t.schema t.log l (t.known k) (names_in parts) r.fair clients (rows_at t.blocks))

-- ---- where the client knew all that it had seen

-- each entry of a client is known where every entry is
pub marked-all : (log : List Entry) (marked : ℕ → Bool) → AllMarked log marked → ClientsMarked log marked
marked-all [] marked a = tt
marked-all (e ∷ log) marked a = (λ c. a (length log) (omega arith), marked-all log marked (λ i l. a i (omega (arith, l))))

-- entries of workers may be unmarked
pub marked-gained : (gained log : List Entry) (marked : ℕ → Bool) → Each IsOfWorker gained → ClientsMarked log marked → ClientsMarked (gained ++ log) marked
marked-gained [] log marked w c = c
marked-gained (e ∷ gained) log marked w c = ((λ q. no-client (is_client e) (not-client e w.0) q), marked-gained gained log marked w.1 c)
  where
    no-client : {A : Type 0} (b : Bool) → b ≡ false → b ≡ true → A
    no-client b f q = absurd (cc)

-- ---- the client's own copy is enough

mutations-own : (gained log : List Entry) → Each IsOfWorker gained → filter is_mutation (gained ++ log) ≡ filter is_mutation log
mutations-own [] log w = refl
mutations-own (Merge name sources count ∷ gained) log w = mutations-own gained log w.1
mutations-own (Mutate old name upto count mcount ∷ gained) log w = mutations-own gained log w.1
mutations-own (Get p n digest source need ∷ gained) log w = absurd w.0
mutations-own (Mutation id numbers command ∷ gained) log w = absurd w.0
mutations-own (DropRange p n ∷ gained) log w = absurd w.0

-- entries of workers are nothing that is read with parts
pub reads-own : (gained log : List Entry) (parts : List NamedData) → Each IsOfWorker gained → rows_read (filter is_mutation log) parts ≡ rows_read (gained ++ log) parts
reads-own gained log parts w = ap (λ (l : List Entry). rows_read l parts) (sym (mutations-own gained log w)) ∙ all-mutations-read (gained ++ log) parts

-- nor do they take anything away
dropped-own : (gained log : List Entry) (known : ℕ → Bool) (a : Name) → Each IsOfWorker gained → DroppedAtMark (gained ++ log) known a → DroppedAtMark log known a
dropped-own [] log known a w d = d
dropped-own (e ∷ gained) log known a w (inl d) = dropped-own gained log known a w.1 d
dropped-own (Merge name sources count ∷ gained) log known a w (inr d) = absurd d.2
dropped-own (Mutate old name upto count mcount ∷ gained) log known a w (inr d) = absurd d.2
dropped-own (Get p n digest source need ∷ gained) log known a w (inr d) = absurd w.0
dropped-own (Mutation id numbers command ∷ gained) log known a w (inr d) = absurd w.0
dropped-own (DropRange p n ∷ gained) log known a w (inr d) = absurd w.0

-- none is made at a mark past the log
made-own : (gained log : List Entry) (known : ℕ → Bool) (a : Name) → ((i : ℕ) → length log ≤ i → known i ≡ false) → MadeAtMark (gained ++ log) known a → MadeAtMark log known a
made-own [] log known a none m = m
made-own (e ∷ gained) log known a none (inr m) = made-own gained log known a none m
made-own (e ∷ gained) log known a none (inl m) = no-mark (known (length (gained ++ log))) (none (length (gained ++ log)) (longer gained)) m.0
  where
    no-mark : {A : Type 0} (b : Bool) → b ≡ false → b ≡ true → A
    no-mark b f q = absurd (cc)

    longer : (xs : List Entry) → length log ≤ length (xs ++ log)
    longer [] = omega arith
    longer (x ∷ xs) = let h = longer xs in omega (arith, h)

-- names that were checked with the log as the client knows it are checked whatever workers appended since
pub checked-still : (gained log : List Entry) (known : ℕ → Bool) (names : List Name) → Each IsOfWorker gained → ((i : ℕ) → length log ≤ i → known i ≡ false) → IsChecked log known names → IsChecked (gained ++ log) known names
checked-still gained log known names w none c = record {
  kept = Each-all (λ a. DroppedAtMark (gained ++ log) known a → ⊥) names (λ a h d. Each-at (λ b. DroppedAtMark log known b → ⊥) names a c.kept h (dropped-own gained log known a w d));
  answered = λ a m. elim (c.answered a (made-own gained log known a none m)) [ inl k ↦ inl k | inr d ↦ inr (dropped-behind gained log a d) ];
}
