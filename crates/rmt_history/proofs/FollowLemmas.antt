-- A table's log, and the copies that follow it.
use Rattle.std.proofs.Common.{◌≡◌, ℕ, suc, ◌+◌, ◌<◌, Bool, true, false, cond, List, [], ◌∷◌, ◌++◌, length, map, reverse, take, get_or, refl, sym, ap, subst, arith, ◌∙◌, length-append}
use Rattle.std.proofs.Math.Seq.{take-append_seam}
use Rattle.std.proofs.lemmas.List.{reverse-append, reverse-reverse, take-append-le}
use Rattle.std.proofs.lemmas.List.Elements.{filter-append}
use Rattle.std.proofs.lemmas.Option.{slice_get_read, slice_get_within}
use Rattle.std.specs.Prelude.{slice_get}
use Rattle.std.specs.declared.option.Option.TheVariants.{Some, None}
use Rattle.rmt_values.specs.Rows.{Shape}
use Rattle.rmt_row.specs.Token.{Token}
use Rattle.rmt_entries.specs.declared.entry.Entry.{Entry}
use Rattle.rmt_model.specs.Lawful.{Lawful, IsPrefix, is_mutation}
use Rattle.rmt_model.proofs.Drops.{some-same}
use Rattle.rmt_history.specs.Copies.{History, entries, cells_of, ArePrefixes, AreNumbered, mutation_tokens}
use Rattle.rmt_history.specs.Mutations.{last_list}
use Rattle.rmt_history.specs.TableLogs.{HaveRowOf, AreShared, IsTableLog, GoOnWith, list_with, lists_with}
use Rattle.rmt_history.proofs.Copied.{at-more, cells-snoc, entries-snoc, get-map}
use Rattle.rmt_history.proofs.RowLemmas.{cell-of-row}
use Rattle.rmt_history.proofs.SharedLemmas.{last-all, shared-more}

same-token : (s t : Token Entry) → s.place ≡ t.place → s.value ≡ t.value → s.cell ≡ t.cell → s ≡ t
same-token s t p v c =
    ap (λ (i : ℕ). record { place = i; value = s.value; cell = s.cell }) p
    ∙ ap (λ (e : Entry). record { place = t.place; value = e; cell = s.cell }) v
    ∙ ap (λ (i : ℕ). record { place = t.place; value = t.value; cell = i }) c

-- tokens that others begin with
record Begins (short long : List (Token Entry)) : Type 0 where
  pub more : List (Token Entry)
  pub is : long ≡ short ++ more

-- tokens of the same places and cells
abbrev AreAlike : List (Token Entry) → List (Token Entry) → Type 0
AreAlike short long = (i : ℕ) (s t : Token Entry) → slice_get short i ≡ Some s → slice_get long i ≡ Some t → (t.place ≡ s.place) × (t.cell ≡ s.cell)

begins : (short long : List (Token Entry)) (rest : List Entry) → map (λ t. t.value) long ≡ map (λ t. t.value) short ++ rest → AreAlike short long → Begins short long
begins [] long rest e f = record { more = long; is = refl }
begins (x ∷ xs) [] rest e f = absurd (cc)
begins (x ∷ xs) (y ∷ ys) rest e f =
    let v : y.value ≡ x.value = cc in
    let w : map (λ t. t.value) ys ≡ map (λ t. t.value) xs ++ rest = cc in
    let g = f 0 x y refl refl in
    let same : y ≡ x = same-token y x g.0 v g.1 in
    let b = begins xs ys rest w (λ i s t p q. f (suc i) s t p q) in
    record { more = b.more; is = ap (λ (t : Token Entry). t ∷ ys) same ∙ ap (λ (ts : List (Token Entry)). x ∷ ts) b.is }

-- tokens that others begin with, before the next one
pub record IsFollowed (short : List (Token Entry)) (next : Token Entry) (long : List (Token Entry)) : Type 0 where
  pub more : List (Token Entry)
  pub is : long ≡ (short ++ next ∷ []) ++ more

followed : (short more : List (Token Entry)) (next : Token Entry) → slice_get (short ++ more) (length short) ≡ Some next → IsFollowed short next (short ++ more)
followed [] [] next e = absurd (cc)
followed [] (y ∷ more) next e = record { more = more; is = ap (λ (t : Token Entry). t ∷ more) (some-same y next e) }
followed (x ∷ short) more next e = let f = followed short more next e in record { more = f.more; is = ap (λ (ts : List (Token Entry)). x ∷ ts) f.is }

-- tokens of one row are alike
alike : (schema : Shape) (short long : List (Token Entry)) → AreNumbered short → AreNumbered long → HaveRowOf (record { schema = schema; log = entries short; cells = cells_of short }) long → AreAlike short long
alike schema short long p q r i s t e f =
    let row = r.0 in
    let a : s.place ≡ i = p i s e in
    let b : t.place ≡ i = q i t f in
    let of-s : slice_get row i ≡ Some s.cell = cell-of-row row (record { schema = schema; log = entries short; cells = cells_of short }) i s.cell r.1 (get-map (λ u. u.cell) short i s e) in
    let of-t : slice_get row i ≡ Some t.cell = subst (λ (j : ℕ). slice_get row j ≡ Some t.cell) b (r.2 i t f) in
    (b ∙ sym a, some-same t.cell s.cell (sym of-t ∙ of-s))

-- a log goes on with the token at the length of a copy of its row whose entries it begins with
log-follows : (short long : List (Token Entry)) (next : Token Entry) → AreAlike short long → IsPrefix (entries short) (entries long) → slice_get long (length short) ≡ Some next → IsFollowed short next long
log-follows short long next a f e =
    let values =
    sym (reverse-reverse (map (λ t. t.value) long)) ∙ ap reverse f.is ∙ reverse-append f.gained (entries short)
    ∙ ap (λ (l : List Entry). l ++ reverse f.gained) (reverse-reverse (map (λ t. t.value) short)) in
    let b = begins short long (reverse f.gained) values a in
    subst (IsFollowed short next) (sym b.is) (followed short b.more next (subst (λ (ts : List (Token Entry)). slice_get ts (length short) ≡ Some next) b.is e))

map-append : {A B : Type 0} (f : A → B) (xs ys : List A) → map f (xs ++ ys) ≡ map f xs ++ map f ys
map-append f [] ys = refl
map-append {A} {B} f (x ∷ xs) ys = ap (λ (zs : List B). f x ∷ zs) (map-append f xs ys)

entries-append : (xs ys : List (Token Entry)) → entries (xs ++ ys) ≡ entries ys ++ entries xs
entries-append xs ys = ap reverse (map-append (λ t. t.value) xs ys) ∙ reverse-append (map (λ t. t.value) xs) (map (λ t. t.value) ys)

lawful-behind : (schema : Shape) (gained log : List Entry) → Lawful schema (gained ++ log) → Lawful schema log
lawful-behind schema [] log l = l
lawful-behind schema (e ∷ gained) log l = lawful-behind schema gained log l.0

-- the same, of a copy and of the token that is read at its length
pub token-follows : (schema : Shape) (short long : List (Token Entry)) (now : History) (place : ℕ) (x next : Token Entry) → AreNumbered short → AreNumbered long
    → record { schema = schema; log = entries short; cells = cells_of short } ≡ now → HaveRowOf now long → IsPrefix now.log (entries long)
    → place ≡ length short → slice_get long place ≡ Some x → next ≡ x → IsFollowed short next long
token-follows schema short long now place x next p q v r f i e n =
    log-follows short long next (alike schema short long p q (subst (λ (h : History). HaveRowOf h long) (sym v) r))
    (subst (λ (h : History). IsPrefix h.log (entries long)) (sym v) f)
    (subst (λ (t : Token Entry). slice_get long (length short) ≡ Some t) (sym n) (subst (λ (j : ℕ). slice_get long j ≡ Some x) i e))

-- the copy with that token
pub view-more : (schema : Shape) (short more : List (Token Entry)) (next : Token Entry) (now : History) → more ≡ short ++ next ∷ [] → record { schema = schema; log = entries short; cells = cells_of short } ≡ now
    → record { schema = schema; log = entries more; cells = cells_of more } ≡ record now { log = next.value ∷ now.log; cells = now.cells ++ next.cell ∷ [] }
view-more schema short more next now m v =
    ap (λ (ts : List (Token Entry)). record { schema = schema; log = entries ts; cells = cells_of ts }) m
    ∙ ap (λ (l : List Entry). record { schema = schema; log = l; cells = cells_of (short ++ next ∷ []) }) (entries-snoc short next)
    ∙ ap (λ (l : List ℕ). record { schema = schema; log = next.value ∷ entries short; cells = l }) (cells-snoc short next)
    ∙ ap (λ (h : History). record h { log = next.value ∷ h.log; cells = h.cells ++ next.cell ∷ [] }) v

-- the copy with that token is lawful
pub followed-lawful : (schema : Shape) (short long : List (Token Entry)) (next : Token Entry) → IsFollowed short next long → Lawful schema (entries long) → Lawful schema (next.value ∷ entries short)
followed-lawful schema short long next f l =
    lawful-behind schema (entries f.more) (next.value ∷ entries short)
    (subst (Lawful schema) (ap entries f.is ∙ entries-append (short ++ next ∷ []) f.more ∙ ap (λ (log : List Entry). entries f.more ++ log) (entries-snoc short next)) l)

-- the log goes on with that token after those of the copy
pub goes-on : (short long : List (Token Entry)) (next : Token Entry) (lists : List (List (Token Entry))) → IsFollowed short next long → ArePrefixes lists (mutation_tokens short) → GoOnWith long lists next
goes-on short long next lists f s = record { before = short; after = f.more; is = f.is; mutating = s }

-- so it is where another word is used for the lists
pub goes-on-held : {A : Type 0} (f : A → List (Token Entry)) (held lists : List A) (long : List (Token Entry)) (next : Token Entry) → held ≡ lists → GoOnWith long (map f lists) next → GoOnWith long (map f held) next
goes-on-held {A} f held lists long next e g = subst (λ (xs : List A). GoOnWith long (map f xs) next) (sym e) g

-- the mutations of a log, of which some are known, before that of the next token
mutations-of : (log : List (Token Entry)) (lists : List (List (Token Entry))) (next : Token Entry) → (g : GoOnWith log lists next) → is_mutation next.value ≡ true → mutation_tokens log ≡ (mutation_tokens g.before ++ next ∷ []) ++ mutation_tokens g.after
mutations-of log lists next g m =
    ap mutation_tokens g.is ∙ filter-append (λ t. is_mutation t.value) (g.before ++ next ∷ []) g.after
    ∙ ap (λ (ts : List (Token Entry)). ts ++ mutation_tokens g.after)
    (filter-append (λ t. is_mutation t.value) g.before (next ∷ []) ∙ ap (λ (b : Bool). mutation_tokens g.before ++ cond b (next ∷ []) []) m)

-- the first of them are those up to the next token
taken : (log : List (Token Entry)) (lists : List (List (Token Entry))) (next : Token Entry) (count : ℕ) → GoOnWith log lists next → is_mutation next.value ≡ true → count ≡ length lists → take (count + 1) (mutation_tokens log) ≡ last_list lists ++ next ∷ []
taken log lists next count g m n =
    let c = g.mutating.counted in
    let h = length-append (mutation_tokens g.before) (next ∷ []) in
    let many : count + 1 ≡ length (mutation_tokens g.before ++ next ∷ []) = omega (arith, c, n, h) in
    ap (λ (i : ℕ). take i (mutation_tokens log)) many
    ∙ ap (take (length (mutation_tokens g.before ++ next ∷ []))) (mutations-of log lists next g m)
    ∙ take-append_seam (mutation_tokens g.before ++ next ∷ []) (mutation_tokens g.after)
    ∙ ap (λ (ts : List (Token Entry)). ts ++ next ∷ []) (sym (last-all lists (mutation_tokens g.before) g.mutating))

-- a list of the log is the one that the copy needs
pub list-at : {A : Type 0} (f : A → List (Token Entry)) (held : List A) (log : List (Token Entry)) (is_whole : Bool) (lists : List (List (Token Entry))) (count : ℕ) (next : Token Entry) (x : A) (list : List (Token Entry))
    → AreShared (map f held) (mutation_tokens log) is_whole → GoOnWith log lists next → is_mutation next.value ≡ true → count ≡ length lists → count < length held → x ≡ get_or held count x → list ≡ f x
    → Some list ≡ list_with lists next
list-at {A} f held log is_whole lists count next x list s g m n l e w =
    let there = slice_get_read held (length held) count x refl l e in
    ap (λ (ts : List (Token Entry)). Some ts) (w ∙ s.upto count (f x) (get-map f held count x there) ∙ taken log lists next count g m n)
    ∙ ap (λ (b : Bool). cond b (Some (last_list lists ++ next ∷ [])) None) (sym m)

-- ---- the log itself

-- lists that none is missing of are prefixes, and the other way round
whole-prefixes : {A : Type 0} (lists : List (List A)) (all : List A) → AreShared lists all true → ArePrefixes lists all
whole-prefixes lists all s = record { counted = s.whole refl; upto = s.upto }

prefixes-whole : {A : Type 0} (lists : List (List A)) (all : List A) (b : Bool) → ArePrefixes lists all → AreShared lists all b
prefixes-whole lists all b s = record { within = let c = s.counted in omega (arith, c); whole = λ q. s.counted; upto = s.upto }

-- the mutations with that of one more token
all-more : (tokens : List (Token Entry)) (next : Token Entry) → mutation_tokens (tokens ++ next ∷ []) ≡ mutation_tokens tokens ++ mutation_tokens (next ∷ [])
all-more tokens next = filter-append (λ t. is_mutation t.value) tokens (next ∷ [])

-- where the list of one more token is missing, those before it stay
missing-more : {A : Type 0} (lists : List (List A)) (all more : List A) (b : Bool) → AreShared lists all b → AreShared lists (all ++ more) false
missing-more {A} lists all more b s = record {
  within = let w = s.within in omega (arith, w, length-append all more);
  whole = λ q. absurd (cc);
  upto = λ k xs e.
      let w = s.within in
      let l = slice_get_within lists k xs e in
      s.upto k xs e ∙ sym (take-append-le (k + 1) all more (omega (arith, w, l)));
}

-- a log with one token more: the next list is there, where none was missing, or it is missing too
pub table-more : (tokens more : List (Token Entry)) (next : Token Entry) (lists longer : List (List (Token Entry))) (b c : Bool)
    → IsTableLog tokens lists b → next.place ≡ length tokens → more ≡ tokens ++ next ∷ [] → longer ≡ cond c (lists_with lists next) lists → (c ≡ true → b ≡ true)
    → IsTableLog more longer c
table-more tokens more next lists longer b true is p m l w = record {
  numbered = subst AreNumbered (sym m) (at-more (λ t. t.place) tokens next is.numbered p);
  shared = subst (λ (xs : List (Token Entry)). AreShared longer (mutation_tokens xs) true) (sym m)
      (subst (λ (ls : List (List (Token Entry))). AreShared ls (mutation_tokens (tokens ++ next ∷ [])) true) (sym l)
      (prefixes-whole (lists_with lists next) (mutation_tokens (tokens ++ next ∷ [])) true
      (shared-more lists tokens next (list_with lists next) (whole-prefixes lists (mutation_tokens tokens) (subst (AreShared lists (mutation_tokens tokens)) (w refl) is.shared)) refl)));
}
table-more tokens more next lists longer b false is p m l w = record {
  numbered = subst AreNumbered (sym m) (at-more (λ t. t.place) tokens next is.numbered p);
  shared = subst (λ (xs : List (Token Entry)). AreShared longer (mutation_tokens xs) false) (sym m)
      (subst (λ (ls : List (List (Token Entry))). AreShared ls (mutation_tokens (tokens ++ next ∷ [])) false) (sym l)
      (subst (λ (all : List (Token Entry)). AreShared lists all false) (sym (all-more tokens next)) (missing-more lists (mutation_tokens tokens) (mutation_tokens (next ∷ [])) b is.shared)));
}
