-- Rows outside what is read don't match.
use Rattle.std.proofs.Common.{◌≡◌, ℕ, zero, suc, ◌+◌, ◌<◌, ◌≤◌, Bool, true, false, cond, List, [], ◌∷◌, ◌++◌, All, map, reverse, filter, length, take, get_or, refl, sym, ap, subst, ◌∙◌, append_assoc, arith}
use Rattle.std.proofs.lemmas.List.{reverse-append}
use Rattle.std.proofs.lemmas.List.Elements.{filter-append, filter_map-append}
use Rattle.std.specs.List.{filter_map, cons_option}
use Rattle.std.specs.Option.{option_to_list}
use Rattle.std.specs.declared.option.Option.{Option}
use Rattle.std.proofs.Math.Nat.{mul-le-mul_right}
use Rattle.std.proofs.lemmas.Bool.{ltb-true}
use Rattle.std.specs.Prelude.{min, nat_lt, ◌*◌}
use Rattle.std.specs.declared.option.Option.TheVariants.{Some, None}
use Rattle.rmt_granules.specs.Granules.{PartView, IsPart, granule_of}
use Rattle.rmt_granules.proofs.Marks.{part-row-there, key_cell}
use Rattle.rmt_values.specs.declared.value.Value.{Value}
use Rattle.rmt_values.specs.Rows.{Shape, key_of}
use Rattle.rmt_entries.specs.declared.entry.Entry.{Entry}
use Rattle.rmt_row.specs.Token.{Token}
use Rattle.rmt_model.specs.Words.{Each}
use Rattle.rmt_model.specs.Content.{Row, changed}
use Rattle.rmt_changes.specs.Changes.{applied_all, entries_of}
use Rattle.rmt_changes.specs.Laws.{EntryFits, KeysStay}
use Rattle.rmt_keyrange.specs.Chosen.{cell_most, cell_below}
use Rattle.rmt_keyrange.proofs.Within.{IsWithin}
use Rattle.rmt_partset.specs.Snapshots.{NamedData, data_in, all_rows}
use Rattle.rmt_values.specs.declared.checked.Checked.{Checked}
use Rattle.rmt_names.specs.Names.{Name, data_version}
use Rattle.rmt_query.specs.Answers.{matches}
use Rattle.rmt_query.specs.ReadRows.{row_read, rows_read}

-- ---- rows that are changed, and then filtered

pub append-none : {X : Type 0} (xs : List X) → xs ++ [] ≡ xs
append-none [] = refl
append-none {X} (x ∷ xs) = ap (λ (l : List X). x ∷ l) (append-none xs)

-- where no changed row before n passes, none of those rows gives one that does
pub none-before : (p : Row → Bool) (f : Row → Option Row) (rows : List Row) (n : ℕ) → ((i : ℕ) (row : Row) → i < length rows → f (get_or rows i []) ≡ Some row → p row ≡ true → n ≤ i) → filter p (filter_map f (take n rows)) ≡ []
none-before p f rows zero h = refl
none-before p f [] (suc n) h = refl
none-before p f (r ∷ rs) (suc n) h = go (f r) refl (none-before p f rs n (λ i row b e t. let w = h (suc i) row (omega (arith, b)) e t in omega (arith, w)))
  where
    kept : (row : Row) (b : Bool) (l : List Row) → f r ≡ Some row → p row ≡ b → l ≡ [] → cond b (row ∷ l) l ≡ []
    kept row true l e t k = absurd (let w = h zero row (omega arith) e t in omega (arith, w))
    kept row false l e t k = k

    go : (o : Option Row) → f r ≡ o → filter p (filter_map f (take n rs)) ≡ [] → filter p (cons_option o (filter_map f (take n rs))) ≡ []
    go None e k = k
    go (Some row) e k = kept row (p row) (filter p (filter_map f (take n rs))) e refl k

-- where each changed row that passes is before n, the rows from n on give none
pub all-before : (p : Row → Bool) (f : Row → Option Row) (rows : List Row) (n : ℕ) → ((i : ℕ) (row : Row) → i < length rows → f (get_or rows i []) ≡ Some row → p row ≡ true → i < n) → filter p (filter_map f (take n rows)) ≡ filter p (filter_map f rows)
all-before p f [] zero h = refl
all-before p f (r ∷ rs) zero h = go (f r) refl (all-before p f rs zero (λ i row b e t. absurd (let w = h (suc i) row (omega (arith, b)) e t in omega (arith, w))))
  where
    kept : (row : Row) (b : Bool) (l : List Row) → f r ≡ Some row → p row ≡ b → [] ≡ l → [] ≡ cond b (row ∷ l) l
    kept row true l e t k = absurd (let w = h zero row (omega arith) e t in omega (arith, w))
    kept row false l e t k = k

    go : (o : Option Row) → f r ≡ o → [] ≡ filter p (filter_map f rs) → [] ≡ filter p (cons_option o (filter_map f rs))
    go None e k = k
    go (Some row) e k = kept row (p row) (filter p (filter_map f rs)) e refl k
all-before p f [] (suc n) h = refl
all-before p f (r ∷ rs) (suc n) h = go (f r) (all-before p f rs n (λ i row b e t. let w = h (suc i) row (omega (arith, b)) e t in omega (arith, w)))
  where
    go : (o : Option Row) → filter p (filter_map f (take n rs)) ≡ filter p (filter_map f rs) → filter p (cons_option o (filter_map f (take n rs))) ≡ filter p (cons_option o (filter_map f rs))
    go None k = k
    go (Some row) k = ap (λ (l : List Row). cond (p row) (row ∷ l) l) k

take-next : (rows : List Row) (i : ℕ) → i < length rows → take (i + 1) rows ≡ take i rows ++ get_or rows i [] ∷ []
take-next [] i h = absurd (omega (arith, h))
take-next (r ∷ rs) zero h = refl
take-next (r ∷ rs) (suc i) h =
    let n : suc i + 1 ≡ suc (i + 1) = omega arith in rw n (ap (λ (l : List Row). r ∷ l) (take-next rs i (omega (arith, h))))

alone : (o : Option Row) → cons_option o [] ≡ option_to_list o
alone None = refl
alone (Some row) = refl

-- one more row
pub row-more : (p : Row → Bool) (f : Row → Option Row) (rows old out : List Row) (i : ℕ) → i < length rows → old ≡ out ++ filter p (filter_map f (take i rows)) → old ++ filter p (option_to_list (f (get_or rows i []))) ≡ out ++ filter p (filter_map f (take (i + 1) rows))
row-more p f rows old out i h e =
    ap (λ (l : List Row). l ++ filter p (option_to_list (f (get_or rows i [])))) e
    ∙ (append_assoc out (filter p (filter_map f (take i rows))) (filter p (option_to_list (f (get_or rows i []))))
    ∙ ap (λ (l : List Row). out ++ l)
    (ap (λ (l : List Row). filter p (filter_map f (take i rows)) ++ filter p l) (sym (alone (f (get_or rows i []))))
    ∙ (sym (filter-append p (filter_map f (take i rows)) (filter_map f (get_or rows i [] ∷ [])))
    ∙ ap (filter p) (sym (filter_map-append f (take i rows) (get_or rows i [] ∷ [])) ∙ ap (filter_map f) (sym (take-next rows i h))))))

-- a row that matches no more, or is deleted
pub row-none : (p : Row → Bool) (f : Row → Option Row) (rows old out : List Row) (i : ℕ) → i < length rows → old ≡ out ++ filter p (filter_map f (take i rows)) → [] ≡ filter p (option_to_list (f (get_or rows i []))) → old ≡ out ++ filter p (filter_map f (take (i + 1) rows))
row-none p f rows old out i h e n = sym (append-none old) ∙ (ap (λ (l : List Row). old ++ l) n ∙ row-more p f rows old out i h e)

-- a row that matches
pub row-one : (p : Row → Bool) (f : Row → Option Row) (rows old out new : List Row) (i : ℕ) (row : Row) → i < length rows → old ≡ out ++ filter p (filter_map f (take i rows)) → row ∷ [] ≡ filter p (option_to_list (f (get_or rows i []))) → new ≡ old ++ row ∷ [] → new ≡ out ++ filter p (filter_map f (take (i + 1) rows))
row-one p f rows old out new i row h e n g = g ∙ (ap (λ (l : List Row). old ++ l) n ∙ row-more p f rows old out i h e)

-- no pending mutation changes no row
pub none-pending : (parts : List NamedData) → rows_read [] parts ≡ all_rows (data_in parts)
none-pending [] = refl
none-pending (part ∷ parts) = ap (λ (l : List Row). l ++ rows_read [] parts) (same part.rows.rows) ∙ ap (λ (l : List Row). part.rows.rows ++ l) (none-pending parts)
  where
    same : (rows : List Row) → filter_map (λ row. Some row) rows ≡ rows
    same [] = refl
    same (r ∷ rs) = ap (λ (l : List Row). r ∷ l) (same rs)

-- ---- keys

-- rows of equal keys have one first key cell
pub first-cell : (key : List ℕ) (a b : Row) → key_of key a ≡ key_of key b → key_cell key a ≡ key_cell key b
first-cell [] a b e = refl
first-cell (c ∷ cs) a b e = cc

pub within-alike : (low high : Option Value) (key : List ℕ) (a b : Row) → key_of key a ≡ key_of key b → IsWithin low high key a → IsWithin low high key b
within-alike low high key a b e w =
    let k = first-cell key a b e in
    (ap (cell_below low) (sym k) ∙ w.0, ap (cell_most high) (sym k) ∙ w.1)

-- the entries of tokens are of a schema where the tokens' are
pub entries-fit : (shape : Shape) (tokens : List (Token Entry)) → All (λ t. EntryFits shape t.value) tokens → Each (EntryFits shape) (entries_of tokens)
entries-fit shape tokens h = turned (map (λ (t : Token Entry). t.value) tokens) (listed tokens h)
  where
    listed : (tokens : List (Token Entry)) → All (λ t. EntryFits shape t.value) tokens → Each (EntryFits shape) (map (λ (t : Token Entry). t.value) tokens)
    listed [] h = tt
    listed (t ∷ ts) h = (h zero t (omega arith), listed ts (λ k d l. h (suc k) d (omega (arith, l))))

    joined : (xs ys : List Entry) → Each (EntryFits shape) xs → Each (EntryFits shape) ys → Each (EntryFits shape) (xs ++ ys)
    joined [] ys a b = b
    joined (x ∷ xs) ys a b = (a.0, joined xs ys a.1 b)

    turned : (xs : List Entry) → Each (EntryFits shape) xs → Each (EntryFits shape) (reverse xs)
    turned [] a = tt
    turned (x ∷ xs) a = subst (Each (EntryFits shape)) (sym (reverse-append (x ∷ []) xs)) (joined (reverse xs) (x ∷ []) (turned xs a.1) (a.0, tt))

-- no row is outside what is read whose key is that of a row that matches
abbrev pub Others : List ℕ → Option Checked → ℕ → ℕ → PartView → Type 0
Others key condition first past part =
    (i : ℕ) (row : Row) → i < length part.rows → key_of key row ≡ key_of key (get_or part.rows i []) → matches condition row ≡ true → (first ≤ i) × (i < past)

-- no row that matches after what is pending for it is outside what is read
pub outside : KeysStay → (shape : Shape) (tokens : List (Token Entry)) (name : Name) (condition : Option Checked) (rows : List Row) (first past : ℕ) → All (λ t. EntryFits shape t.value) tokens → ((i : ℕ) (row : Row) → i < length rows → key_of shape.key row ≡ key_of shape.key (get_or rows i []) → matches condition row ≡ true → (first ≤ i) × (i < past)) → (i : ℕ) (row : Row) → i < length rows → row_read (entries_of tokens) name (get_or rows i []) ≡ Some row → matches condition row ≡ true → (first ≤ i) × (i < past)
outside stay shape tokens name condition rows first past fit others i row below e t =
    others i row below (stay shape (entries_of tokens) name.partition (λ k. nat_lt (data_version name) k) (get_or rows i []) row (entries-fit shape tokens fit) e) t

-- a row after what is pending for its part
pub after-is : (entries : List Entry) (name name' : Name) (p : Option ℕ) (v : ℕ) (row given : Row) (new : Option Row) → new ≡ changed entries p (λ k. nat_lt v k) row → p ≡ name'.partition → v ≡ data_version name' → name' ≡ name → row ≡ given → new ≡ row_read entries name given
after-is entries name name' p v row given new e ep ev en er =
    e
    ∙ (ap (λ (q : Option ℕ). changed entries q (λ k. nat_lt v k) row) ep
    ∙ (ap (λ n. changed entries name'.partition (λ k. nat_lt n k) row) ev
    ∙ (ap (λ (m : Name). row_read entries m row) en ∙ ap (row_read entries name) er)))

-- a row after the commands that are due for its part
pub due-read : (due held tokens : List (Token Entry)) (name name' : Name) (row : Row) → due ≡ held
    → ((r : Row) → applied_all (entries_of held) r ≡ row_read (entries_of tokens) name' r) → name' ≡ name → applied_all (entries_of due) row ≡ row_read (entries_of tokens) name row
due-read due held tokens name name' row e f n =
    ap (λ (ts : List (Token Entry)). applied_all (entries_of ts) row) e ∙ (f row ∙ ap (λ (m : Name). row_read (entries_of tokens) m row) n)

-- ---- granules that are read

-- where there is a granule, it is these rows
pub granule-parts : (part : PartView) (g : ℕ) (r : ℕ × ℕ) → Some r ≡ granule_of part g → (g < length part.marks) × (r.0 ≡ g * part.granularity) × (r.1 ≡ min ((g + 1) * part.granularity) (length part.rows))
granule-parts part g r e = go (nat_lt g (length part.marks)) refl e where
  go : (b : Bool) → nat_lt g (length part.marks) ≡ b → Some r ≡ cond b (Some (g * part.granularity, min ((g + 1) * part.granularity) (length part.rows))) None → (g < length part.marks) × (r.0 ≡ g * part.granularity) × (r.1 ≡ min ((g + 1) * part.granularity) (length part.rows))
  go true t h = let q : r ≡ (g * part.granularity, min ((g + 1) * part.granularity) (length part.rows)) = cc in (ltb-true g (length part.marks) t, ap (λ (w : ℕ × ℕ). w.0) q, ap (λ (w : ℕ × ℕ). w.1) q)
  go false t h = absurd (cc)

-- a granule begins before a later one ends
pub begins-before : (part : PartView) → IsPart part → (first last : ℕ) (a b : ℕ × ℕ) → first ≤ last → Some a ≡ granule_of part first → Some b ≡ granule_of part last → a.0 ≤ b.1
begins-before part p first last a b le ea eb =
    let u = granule-parts part first a ea in
    let v = granule-parts part last b eb in
    let there = part-row-there part p first u.0 in
    let m = mul-le-mul_right part.granularity (suc-le le) in
    omega (arith, u.1, v.2, there, m)
  where
    suc-le : first ≤ last → first ≤ last + 1
    suc-le h = omega (arith, h)

-- rows from where a granule begins to where a later one ends are in the granules from the first to the last
pub rows-inside : (part : PartView) (first last i : ℕ) (a b : ℕ × ℕ) → Some a ≡ granule_of part first → Some b ≡ granule_of part last → a.0 ≤ i → i < b.1 → (first * part.granularity ≤ i) × (i < (last + 1) * part.granularity)
rows-inside part first last i a b ea eb le lt =
    let u = granule-parts part first a ea in
    let v = granule-parts part last b eb in
    (omega (arith, u.1, le), omega (arith, v.2, lt))
