-- Tokens in their order, and the log that they are of.
use Rattle.std.proofs.Common.{◌≡◌, ℕ, zero, suc, Bool, true, false, cond, List, [], ◌∷◌, ◌++◌, length, map, reverse, refl, sym, ap, subst, arith, ◌∙◌, nat_eq}
use Rattle.std.proofs.lemmas.Bool.Decides.{nat_tests}
use Rattle.std.proofs.lemmas.List.{reverse-append, reverse-reverse, length-map, length-reverse}
use Rattle.std.specs.Prelude.{slice_get, option_to_list}
use Rattle.std.specs.BTreeMap.{BTreeMap, get}
use Rattle.std.specs.declared.option.Option.{Option}
use Rattle.std.specs.declared.option.Option.TheVariants.{Some, None}
use Rattle.rmt_values.specs.Rows.{Shape}
use Rattle.rmt_names.specs.Names.{Name}
use Rattle.rmt_row.specs.Token.{Token}
use Rattle.rmt_entries.specs.Entries.{result_name}
use Rattle.rmt_entries.specs.declared.entry.Entry.{Entry}
use Rattle.rmt_model.specs.Live.{live, live_after}
use Rattle.rmt_model.specs.Lawful.{Lawful, entry_at, is_mutation}
use Rattle.rmt_history.specs.Copies.{entries, cells_of, IsMadeBy, maker_after, drop_after, last_drop, partition_cmp, ArePrefixes, AreNumbered, mutation_tokens, IsCopy, name_cmp}
use Rattle.rmt_history.specs.Mutations.{last_list}
use Rattle.rmt_history.proofs.ListLemmas.{get-snoc}
use Rattle.rmt_history.proofs.SharedLemmas.{shared-more}
use Rattle.rmt_history.proofs.LastDrops.{drop-more}
use Rattle.rmt_history.specs.declared.last_drop.LastDrop.{LastDrop}
use Rattle.rmt_history.proofs.Makers.{made-more}

pub map-snoc : {A B : Type 0} (f : A → B) (xs : List A) (x : A) → map f (xs ++ x ∷ []) ≡ map f xs ++ f x ∷ []
map-snoc f [] x = refl
map-snoc f (y ∷ xs) x = ap (λ zs. f y ∷ zs) (map-snoc f xs x)

-- one more token is one more entry
pub entries-snoc : (tokens : List (Token Entry)) (next : Token Entry) → entries (tokens ++ next ∷ []) ≡ next.value ∷ entries tokens
entries-snoc tokens next = ap reverse (map-snoc (λ t. t.value) tokens next) ∙ reverse-append (map (λ t. t.value) tokens) (next.value ∷ [])

pub length-entries : (tokens : List (Token Entry)) → length (entries tokens) ≡ length tokens
length-entries tokens = length-reverse (map (λ t. t.value) tokens) ∙ length-map tokens (λ t. t.value)

-- places count from the other end
entry_at-reverse : (log : List Entry) (i : ℕ) → entry_at log i ≡ slice_get (reverse log) i
entry_at-reverse [] i = refl
entry_at-reverse (e ∷ log) i =
    ap (λ (o : Option Entry). cond (nat_eq i (length log)) (Some e) o) (entry_at-reverse log i)
    ∙ (ap (λ n. cond (nat_eq i n) (Some e) (slice_get (reverse log) i)) (sym (length-reverse log))
    ∙ (sym (get-snoc (reverse log) e i) ∙ ap (λ (xs : List Entry). slice_get xs i) (sym (reverse-append (e ∷ []) log))))

pub get-map : {A B : Type 0} (f : A → B) (xs : List A) (i : ℕ) (x : A) → slice_get xs i ≡ Some x → slice_get (map f xs) i ≡ Some (f x)
get-map f [] i x e = cc
get-map f (y ∷ xs) zero x e = let q : y ≡ x = cc in ap (λ z. Some (f z)) q
get-map f (y ∷ xs) (suc i) x e = get-map f xs i x e

-- the entry at a place is that of the token there
pub token_at : (tokens : List (Token Entry)) (i : ℕ) (t : Token Entry) → slice_get tokens i ≡ Some t → entry_at (entries tokens) i ≡ Some t.value
token_at tokens i t e =
    entry_at-reverse (entries tokens) i
    ∙ (ap (λ (xs : List Entry). slice_get xs i) (reverse-reverse (map (λ t. t.value) tokens)) ∙ get-map (λ t. t.value) tokens i t e)

pub cell_at : (tokens : List (Token Entry)) (i : ℕ) (t : Token Entry) → slice_get tokens i ≡ Some t → slice_get (cells_of tokens) i ≡ Some t.cell
cell_at tokens i t e = get-map (λ t. t.cell) tokens i t e

-- one more token is one more cell
pub cells-snoc : (tokens : List (Token Entry)) (next : Token Entry) → cells_of (tokens ++ next ∷ []) ≡ cells_of tokens ++ next.cell ∷ []
cells-snoc tokens next = map-snoc (λ t. t.cell) tokens next

-- where each token has its index as this number, so have they with one more that has it
pub at-more : (f : Token Entry → ℕ) (tokens : List (Token Entry)) (next : Token Entry) → ((i : ℕ) (t : Token Entry) → slice_get tokens i ≡ Some t → f t ≡ i) → f next ≡ length tokens → (i : ℕ) (t : Token Entry) → slice_get (tokens ++ next ∷ []) i ≡ Some t → f t ≡ i
at-more f tokens next at is i t e = go (nat_eq i (length tokens)) refl (sym (get-snoc tokens next i) ∙ e)
  where
    go : (b : Bool) → nat_eq i (length tokens) ≡ b → cond b (Some next) (slice_get tokens i) ≡ Some t → f t ≡ i
    go true q k =
        let s : next ≡ t = cc in
        let r : i ≡ length tokens = grind (arith, nat_tests) in
        ap f (sym s) ∙ is ∙ sym r
    go false q k = at i t k

-- a copy with its next token is a copy
pub IsCopy-more : (schema : Shape) (tokens more : List (Token Entry)) (names after : List Name) (next : Token Entry) (index newer : BTreeMap Name ℕ) (drops later : BTreeMap (Option ℕ) LastDrop) (lists longer : List (List (Token Entry))) (list : Option (List (Token Entry)))
    → IsCopy schema tokens names index drops lists → next.place ≡ length (entries tokens) → Lawful schema (next.value ∷ entries tokens)
    → more ≡ tokens ++ next ∷ [] → after ≡ live_after next.value names
    → ((a : Name) → get name_cmp newer a ≡ maker_after (result_name next.value) (length tokens) (get name_cmp index a) a)
    → ((q : Option ℕ) → get partition_cmp later q ≡ drop_after next.value (length tokens) (get partition_cmp drops q) q)
    → list ≡ cond (is_mutation next.value) (Some (last_list lists ++ next ∷ [])) None → longer ≡ lists ++ option_to_list list
    → IsCopy schema more after newer later longer
IsCopy-more schema tokens more names after next index newer drops later lists all list c p l m a n d s w =
    record {
      lawful = subst (Lawful schema) longer l;
      numbered = subst AreNumbered (sym m) (at-more (λ t. t.place) tokens next c.numbered (p ∙ length-entries tokens));
      living = a ∙ (ap (live_after next.value) c.living ∙ ap live longer);
      indexed = λ b. subst (λ (log : List Entry). IsMadeBy log b (get name_cmp newer b)) longer
          (subst (IsMadeBy (next.value ∷ entries tokens) b) (sym (n b))
          (made-more next.value (entries tokens) b (result_name next.value) (length tokens) (get name_cmp index b) refl (sym (length-entries tokens)) (c.indexed b)));
      dropped = λ q. d q ∙ (drop-more next.value (entries tokens) q (length tokens) (get partition_cmp drops q) (sym (length-entries tokens)) (c.dropped q) ∙ ap (λ (log : List Entry). last_drop log q) longer);
      mutating = subst (λ (xs : List (Token Entry)). ArePrefixes all (mutation_tokens xs)) (sym m) (subst (λ (ls : List (List (Token Entry))). ArePrefixes ls (mutation_tokens (tokens ++ next ∷ []))) (sym w) (shared-more lists tokens next list c.mutating s));
    }
  where
    longer : next.value ∷ entries tokens ≡ entries more
    longer = sym (ap entries m ∙ entries-snoc tokens next)
