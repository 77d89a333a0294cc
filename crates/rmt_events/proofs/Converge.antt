-- Replicas that are drained to one length have equal parts, and what is read of them is the plain rows.
use Rattle.std.proofs.Common.{◌≡◌, ℕ, ◌≤◌, inl, inr, ◌&&◌, Bool, true, false, cond, List, [], ◌∷◌, ◌++◌, length, refl, sym, ap, subst, arith, ◌∙◌, nat_eq, nat_lt}
use Rattle.std.proofs.lemmas.Bool.Decides.{nat_tests}
use Rattle.std.specs.List.{filter_map}
use Rattle.std.specs.declared.option.Option.{Option}
use Rattle.std.specs.declared.option.Option.TheVariants.{Some}
use Rattle.rmt_values.specs.Rows.{Shape}
use Rattle.rmt_values.specs.Order.{SameBag}
use Rattle.rmt_names.specs.Names.{Name, rank, data_version}
use Rattle.rmt_entries.specs.declared.entry.Entry.{Entry}
use Rattle.rmt_entries.specs.declared.entry.Entry.TheVariants.{Get, Merge, Mutate, Mutation, DropRange}
use Rattle.rmt_model.specs.Words.{Has, Each}
use Rattle.rmt_model.specs.Live.{live, made}
use Rattle.rmt_model.specs.Lawful.{Lawful, Used, entry_at, MakesAt, IsPrefix}
use Rattle.rmt_model.specs.Content.{Row, Blocks, changed, content, rows, snapshot}
use Rattle.rmt_model.specs.Parts.{NumberedBlock}
use Rattle.rmt_model.specs.CopiedParts.{Copied, IsCopied, names_of}
use Rattle.rmt_model.proofs.Lists.{Each-at, Each-all, rank-injective}
use Rattle.rmt_model.proofs.VersionLaws.{made-sized}
use Rattle.rmt_model.proofs.Drops.{entry-cases, entry-has}
use Rattle.rmt_model.proofs.Drained.{fair-live}
use Rattle.rmt_laws.proofs.Headline.{reads-plain-rows}
use Rattle.rmt_events.specs.Views.{Block, Replica}
use Rattle.rmt_events.specs.Sound.{IsSoundTable}
use Rattle.rmt_events.specs.ReplicaCalls.{IsDrained}
use Rattle.rmt_events.specs.Clusters.{Cluster, committed_at, rows_of, blocks_in, rows_at, accepted}
use Rattle.rmt_events.specs.Whole.{IsBlockAt, HasItsBlocks, Follows, IsWhole}
use Rattle.rmt_events.specs.Shown.{names_and_rows, contents, read_rows}
use Rattle.rmt_events.proofs.Copies.{made-at, made-behind, fronts, content-of-lineage, part-behind}
use Rattle.rmt_events.specs.declared.event.Event.{Event}
use Rattle.rmt_events.specs.declared.reply.Reply.{Reply}

-- ---- the blocks that the events tell

used-get : (log : List Entry) (p : Option ℕ) (n source need : ℕ) (digest : List ℕ) → Has log (Get p n digest source need) → Used log p n
used-get [] p n source need digest h = absurd h
used-get (e ∷ log) p n source need digest (inl q) = subst (λ (x : Entry). Used (x ∷ log) p n) (sym q) (inl (refl, refl))
used-get (e ∷ log) p n source need digest (inr h) = inr (used-get log p n source need digest h)

-- a Get behind an entry that is none
older : {G : Type 0} (e : Entry) (log : List Entry) (i : ℕ) (p : Option ℕ) (n source need : ℕ) (digest : List ℕ) → (e ≡ Get p n digest source need → ⊥) → entry_at (e ∷ log) i ≡ Some (Get p n digest source need) → (entry_at log i ≡ Some (Get p n digest source need) → G) → G
older e log i p n source need digest d q f = elim (entry-cases e log i (Get p n digest source need) q) [ inl h ↦ absurd (d h.1) | inr h ↦ f h ]

-- the first block of a number that is used is no later one
block-given : (schema : Shape) (log : List Entry) (events : List (Event × Reply)) (i : ℕ) (p : Option ℕ) (n source need : ℕ) (digest : List ℕ) (b : Block) → Lawful schema log → entry_at log i ≡ Some (Get p n digest source need) → committed_at events i ≡ Some b → rows_at (blocks_in log events) p n ≡ b.rows
block-given schema [] events i p n source need digest b l q c = absurd (cc)
block-given schema (Get r m d o k ∷ log) events i p n source need digest b l q c = elim (entry-cases (Get r m d o k) log i (Get p n digest source need) q) [
  | inl h ↦
      ap (λ (t : Bool). cond t (rows_of (committed_at events (length log))) (rows_at (blocks_in log events) p n)) (same (cc) (cc))
      ∙ ap rows_of (ap (committed_at events) (sym h.0) ∙ c)
  | inr h ↦
      ap (λ (t : Bool). cond t (rows_of (committed_at events (length log))) (rows_at (blocks_in log events) p n)) (other (used-get log p n source need digest (entry-has log i (Get p n digest source need) h)) (nat_eq (rank r) (rank p) && nat_eq m n) refl)
      ∙ block-given schema log events i p n source need digest b l.0 h c
]
  where
    same : r ≡ p → m ≡ n → (nat_eq (rank r) (rank p) && nat_eq m n) ≡ true
    same e f = let g : rank r ≡ rank p = ap rank e in grind (arith, nat_tests)

    other : Used log p n → (t : Bool) → (nat_eq (rank r) (rank p) && nat_eq m n) ≡ t → t ≡ false
    other u false e = refl
    other u true e =
        let f : r ≡ p = rank-injective r p (grind (arith, nat_tests)) in
        let g : m ≡ n = grind (arith, nat_tests) in
        absurd (l.1.unused (subst (λ (o : Option ℕ). Used log o m) (sym f) (subst (λ j. Used log p j) (sym g) u)))
block-given schema (Merge name olds count ∷ log) events i p n source need digest b l q c = older (Merge name olds count) log i p n source need digest (λ e. absurd (cc)) q (λ h. block-given schema log events i p n source need digest b l.0 h c)
block-given schema (Mutate old name upto count mcount ∷ log) events i p n source need digest b l q c = older (Mutate old name upto count mcount) log i p n source need digest (λ e. absurd (cc)) q (λ h. block-given schema log events i p n source need digest b l.0 h c)
block-given schema (Mutation id numbers command ∷ log) events i p n source need digest b l q c = older (Mutation id numbers command) log i p n source need digest (λ e. absurd (cc)) q (λ h. block-given schema log events i p n source need digest b l.0 h c)
block-given schema (DropRange r m ∷ log) events i p n source need digest b l q c = older (DropRange r m) log i p n source need digest (λ e. absurd (cc)) q (λ h. block-given schema log events i p n source need digest b l.0 h c)

-- ---- one replica

-- each active part holds the content of its name, in the copy and in the whole log, with the accepted blocks
pub part-content : (s : Cluster) (x : Replica) (part : Copied) → IsWhole s → Follows s x → Has x.parts part → (part.rows ≡ content s.table.schema x.log (rows_at (accepted s)) part.name) × (part.rows ≡ content s.table.schema s.table.log (rows_at (accepted s)) part.name)
part-content s x part w f h = (of-log x.log f.stands.lawful g.0 g.1, of-log s.table.log l (made-on g.0) (part-on g.0 g.1))
  where
    l : Lawful s.table.schema s.table.log
    l = IsSoundTable.lawful w.table

    g : Has (made x.log) part.name × IsCopied s.table.schema x.log part
    g = let k = Each-at (λ p. MakesAt x.log p.place p.name × IsCopied s.table.schema x.log p) x.parts part f.stands.parts h in (made-at x.log part.place part.name k.0, k.1)

    theirs : Each (λ b. rows_at (accepted s) part.name.partition b.number ≡ b.rows) part.lineage
    theirs = Each-all (λ b. rows_at (accepted s) part.name.partition b.number ≡ b.rows) part.lineage (λ b k. one b (Each-at (IsBlockAt s part.name.partition) part.lineage b (Each-at (HasItsBlocks s) x.parts part f.blocks h) k))
      where
        one : (b : NumberedBlock) → IsBlockAt s part.name.partition b → rows_at (accepted s) part.name.partition b.number ≡ b.rows
        one b k = block-given s.table.schema s.table.log s.events k.place part.name.partition b.number k.source k.need b.digest (record { partition = part.name.partition; digest = b.digest; rows = b.rows }) l k.entry k.block

    of-log : (log : List Entry) → Lawful s.table.schema log → Has (made log) part.name → IsCopied s.table.schema log part → part.rows ≡ content s.table.schema log (rows_at (accepted s)) part.name
    of-log log lawful m i = i.holds ∙ content-of-lineage s.table.schema log (rows_at (accepted s)) part.name part.lineage i.lineage theirs (made-sized s.table.schema log part.name lawful m)

    made-on : Has (made x.log) part.name → Has (made s.table.log) part.name
    made-on m = subst (λ (z : List Entry). Has (made z) part.name) (sym f.prefix.is) (made-behind f.prefix.gained x.log part.name m)

    part-on : Has (made x.log) part.name → IsCopied s.table.schema x.log part → IsCopied s.table.schema s.table.log part
    part-on m i = subst (λ (z : List Entry). IsCopied s.table.schema z part) (sym f.prefix.is) (part-behind s.table.schema f.prefix.gained x.log part (subst (Lawful s.table.schema) f.prefix.is l) m i)

pub read-snapshot : (schema : Shape) (log : List Entry) (blocks : Blocks) (parts : List Copied) → ((part : Copied) → Has parts part → part.rows ≡ content schema log blocks part.name) → read_rows log parts ≡ snapshot schema log blocks (names_of parts)
read-snapshot schema log blocks [] h = refl
read-snapshot schema log blocks (part ∷ parts) h =
    ap (λ (xs : List Row). filter_map (changed log part.name.partition (λ k. nat_lt (data_version part.name) k)) xs ++ read_rows log parts) (h part (inl refl))
    ∙ ap (λ (xs : List Row). filter_map (changed log part.name.partition (λ k. nat_lt (data_version part.name) k)) (content schema log blocks part.name) ++ xs) (read-snapshot schema log blocks parts (λ p k. h p (inr k)))

-- a drained replica has exactly the live names
pub drained-live : (s : Cluster) (x : Replica) → Follows s x → IsDrained x → names_of x.parts ≡ live x.log
drained-live s x f d = fair-live s.table.schema x.log _ (names_of x.parts) f.stands.lawful f.stands.fair d

-- what is read of a drained replica, with what is pending, is the plain rows of its copy
pub drained-reads : (s : Cluster) (x : Replica) → IsWhole s → Follows s x → IsDrained x → SameBag (read_rows x.log x.parts) (rows x.log (rows_at (accepted s)))
drained-reads s x w f d =
    let e = read-snapshot s.table.schema x.log (rows_at (accepted s)) x.parts (λ p h. (part-content s x p w f h).0) ∙ ap (snapshot s.table.schema x.log (rows_at (accepted s))) (drained-live s x f d) in
    subst (λ (xs : List Row). SameBag xs (rows x.log (rows_at (accepted s)))) (sym e) (reads-plain-rows s.table.schema x.log f.stands.lawful (rows_at (accepted s)))

-- ---- two replicas

-- parts that hold the contents of their names
pub shown-contents : (schema : Shape) (log : List Entry) (blocks : Blocks) (parts : List Copied) → ((part : Copied) → Has parts part → part.rows ≡ content schema log blocks part.name) → names_and_rows parts ≡ contents schema log blocks (names_of parts)
shown-contents schema log blocks [] h = refl
shown-contents schema log blocks (part ∷ parts) h =
    ap (λ (xs : List Row). (part.name, xs) ∷ names_and_rows parts) (h part (inl refl))
    ∙ ap (λ (ys : List (Name × List Row)). (part.name, content schema log blocks part.name) ∷ ys) (shown-contents schema log blocks parts (λ p k. h p (inr k)))

-- fronts of one log that are of one length are equal
pub one-front : (x y log : List Entry) → IsPrefix x log → IsPrefix y log → length x ≡ length y → x ≡ y
one-front x y log f g e = elim (fronts x y log f g) [ inl h ↦ same x y h e | inr h ↦ sym (same y x h (sym e)) ]
  where
    longer : (us z : List Entry) → length z ≤ length (us ++ z)
    longer [] z = omega arith
    longer (u ∷ us) z = let k = longer us z in omega (arith, k)

    same : (a b : List Entry) → IsPrefix a b → length a ≡ length b → a ≡ b
    same a b h e = go h.gained h.is
      where
        go : (us : List Entry) → b ≡ us ++ a → a ≡ b
        go [] q = sym q
        go (u ∷ us) q = let k = longer us a in let m : length b ≡ length (u ∷ (us ++ a)) = ap (λ (z : List Entry). length z) q in absurd (omega (arith, k, m, e))

-- a drained replica has the live names of its copy, each with its content
pub drained-contents : (s : Cluster) (x : Replica) → IsWhole s → Follows s x → IsDrained x → names_and_rows x.parts ≡ contents s.table.schema x.log (rows_at (accepted s)) (live x.log)
drained-contents s x w f d = shown-contents s.table.schema x.log (rows_at (accepted s)) x.parts (λ p i. (part-content s x p w f i).0) ∙ ap (contents s.table.schema x.log (rows_at (accepted s))) (drained-live s x f d)

-- replicas that are drained to one length have equal names and rows
pub drained-agree : (s : Cluster) (x y : Replica) → IsWhole s → Follows s x → Follows s y → IsDrained x → IsDrained y → length x.log ≡ length y.log → names_and_rows x.parts ≡ names_and_rows y.parts
drained-agree s x y w f g d e q =
    let l : x.log ≡ y.log = one-front x.log y.log s.table.log f.prefix g.prefix q in
    drained-contents s x w f d ∙ (ap (λ (z : List Entry). contents s.table.schema z (rows_at (accepted s)) (live z)) l ∙ sym (drained-contents s y w g e))
