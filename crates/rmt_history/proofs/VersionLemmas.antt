-- The version of a part, and the last mutation that is pending for it.
use Rattle.std.proofs.Common.{◌≡◌, ℕ, ◌-◌, ◌<◌, ◌≤◌, ◌⊎◌, inl, inr, ◌&&◌, Bool, true, false, cond, not, List, [], ◌∷◌, length, get_or, refl, sym, ap, subst, arith, ◌∙◌, nat_eq, nat_lt, nat_le}
use Rattle.std.proofs.lemmas.Bool.Decides.{nat_tests}
use Rattle.std.specs.Prelude.{slice_get}
use Rattle.std.specs.Option.{unwrap_or}
use Rattle.std.specs.List.{prefix_len}
use Rattle.std.specs.declared.option.Option.{Option}
use Rattle.std.specs.declared.option.Option.TheVariants.{Some, None}
use Rattle.rmt_values.specs.Rows.{Shape}
use Rattle.rmt_names.specs.Names.{Name, data_version}
use Rattle.rmt_row.specs.Token.{Token}
use Rattle.rmt_entries.specs.declared.entry.Entry.{Entry}
use Rattle.rmt_entries.specs.declared.entry.Entry.TheVariants.{Get, Merge, Mutate, Mutation, DropRange}
use Rattle.rmt_model.specs.Words.{Has}
use Rattle.rmt_model.specs.Lawful.{entry_at, version_at, version_below, ver, is_mutation, IsMutationWith}
use Rattle.rmt_model.proofs.Lists.{Has-filter}
use Rattle.rmt_model.proofs.Drops.{some-same, entry-below, entry-cases, entry-older, entry-has}
use Rattle.rmt_history.specs.Copies.{entries, mutation_tokens}
use Rattle.rmt_history.specs.Mutations.{number_in, HasOrder, is_settled, AreOrdered, is_below}
use Rattle.rmt_model.specs.Choices.{is_pending, last_pending}
use Rattle.rmt_history.proofs.NumberLemmas.{at_most, passes, pending-number, version-number, pending-mutation, in-with, with-in, later-above, log-order}
use Rattle.rmt_history.proofs.ListLemmas.{get-has, has-get, passes-below, below-passes, Pairwise-at, last-counted}
use Rattle.rmt_history.proofs.KeptLemmas.{AreKept, entry-held, token-of, mutations-rise, mutations-ordered, count_under, IsCounted, counted-under}

-- ---- the version of a log

at-below : (log : List Entry) (e : Entry) (p : Option ℕ) (limit : ℕ) → Has log e → version_at e p limit ≤ version_below log p limit
at-below [] e p limit h = absurd h
at-below (x ∷ log) e p limit (inl q) = let r = ap (λ (z : Entry). version_at z p limit) q in omega (arith, r)
at-below (x ∷ log) e p limit (inr h) = let r = at-below log e p limit h in omega (arith, r)

-- the entry that gives the version
record GivesVersion (log : List Entry) (p : Option ℕ) (limit : ℕ) : Type 0 where
  pub place : ℕ
  pub entry : Entry
  pub stands : entry_at log place ≡ Some entry
  pub version : version_below log p limit ≡ version_at entry p limit

version-given : (log : List Entry) (p : Option ℕ) (limit : ℕ) → (version_below log p limit ≡ 0) ⊎ GivesVersion log p limit
version-given [] p limit = inl refl
version-given (x ∷ log) p limit = go (nat_le (version_below log p limit) (version_at x p limit)) refl (version-given log p limit)
  where
    at : entry_at (x ∷ log) (length log) ≡ Some x
    at = let t : nat_eq (length log) (length log) ≡ true = grind (arith, nat_tests) in ap (λ (b : Bool). cond b (Some x) (entry_at log (length log))) t

    go : (b : Bool) → nat_le (version_below log p limit) (version_at x p limit) ≡ b → (version_below log p limit ≡ 0) ⊎ GivesVersion log p limit → (version_below (x ∷ log) p limit ≡ 0) ⊎ GivesVersion (x ∷ log) p limit
    go true q g = let l : version_below log p limit ≤ version_at x p limit = grind (arith, nat_tests) in inr (record { place = length log; entry = x; stands = at; version = omega (arith, l) })
    go false q (inl z) = let l : version_at x p limit < version_below log p limit = grind (arith, nat_tests) in absurd (omega (arith, l, z))
    go false q (inr g) =
        let l : version_at x p limit < version_below log p limit = grind (arith, nat_tests) in
        let v = g.version in
        inr (record { place = g.place; entry = g.entry; stands = entry-older x log g.place g.entry g.stands; version = omega (arith, l, v) })

-- ---- the version by the settled mutations

-- an entry that gives a version is settled, with that number
record Settles (a : Name) (e : Entry) : Type 0 where
  pub taken : IsMutationWith (Some e) a.partition (version_at e a.partition (data_version a))
  pub mutation : is_mutation e ≡ true
  pub settled : not (is_pending a e) ≡ true

with-mutation : (e : Entry) (p : Option ℕ) (n : ℕ) → IsMutationWith (Some e) p n → is_mutation e ≡ true
with-mutation (Mutation id numbers command) p n k = refl
with-mutation (Get q m digest source need) p n k = absurd k
with-mutation (Merge new sources count) p n k = absurd k
with-mutation (Mutate old new upto count mcount) p n k = absurd k
with-mutation (DropRange q m) p n k = absurd k

settles : (schema : Shape) (log : List Entry) (i : ℕ) (a : Name) (e : Entry) → (o : Option ℕ) → number_in e a.partition ≡ o → version_at e a.partition (data_version a) ≡ at_most (data_version a) o → is_pending a e ≡ passes (λ k. nat_lt (data_version a) k) o → 0 < version_at e a.partition (data_version a) → Settles a e
settles schema log i a e None q v w h = absurd (omega (arith, v, h))
settles schema log i a e (Some n) q v w h = go (nat_le n (data_version a)) refl v
  where
    go : (b : Bool) → nat_le n (data_version a) ≡ b → version_at e a.partition (data_version a) ≡ cond b n 0 → Settles a e
    go false t u = absurd (omega (arith, u, h))
    go true t u =
        let l : nat_lt (data_version a) n ≡ false = grind (arith, nat_tests) in
        let k : IsMutationWith (Some e) a.partition n = in-with e a.partition n q in
        record { taken = subst (IsMutationWith (Some e) a.partition) (sym u) k; mutation = with-mutation e a.partition n k; settled = ap not (w ∙ l) }

-- a settled entry's version is its number
settled-number : (a : Name) (e : Entry) (o : Option ℕ) → version_at e a.partition (data_version a) ≡ at_most (data_version a) o → is_pending a e ≡ passes (λ k. nat_lt (data_version a) k) o → not (is_pending a e) ≡ true → version_at e a.partition (data_version a) ≡ unwrap_or o 0
settled-number a e None v w s = v
settled-number a e (Some n) v w s =
    let f : nat_lt (data_version a) n ≡ false = deny (nat_lt (data_version a) n) (sym (ap not w) ∙ s) in
    let t : nat_le n (data_version a) ≡ true = grind (arith, nat_tests) in
    v ∙ ap (λ (b : Bool). cond b n 0) t
  where
    deny : (b : Bool) → not b ≡ true → b ≡ false
    deny true e = absurd (cc)
    deny false e = refl

abbrev pub count_settled : List (Token Entry) → Name → ℕ
count_settled tokens a = prefix_len (is_settled a) (mutation_tokens tokens)

-- the settled mutation that an entry is, where it gives a version
record IsSettledAt (tokens : List (Token Entry)) (a : Name) (g : Entry) : Type 0 where
  pub token : Token Entry
  pub at : ℕ
  pub stands : slice_get (mutation_tokens tokens) at ≡ Some token
  pub counted : at < count_settled tokens a
  pub value : token.value ≡ g

settled-at : (schema : Shape) (tokens : List (Token Entry)) (a : Name) (i : ℕ) (e : Entry) → AreKept schema tokens → entry_at (entries tokens) i ≡ Some e → Settles a e → IsSettledAt tokens a e
settled-at schema tokens a i e k h s =
    let t = token-of schema tokens i e k h s.mutation in
    let r = has-get (mutation_tokens tokens) t.token t.is_in in
    record {
      token = t.token;
      at = r.0;
      stands = r.1;
      counted = passes-below (is_settled a) (mutation_tokens tokens) r.0 t.token (AreOrdered.settled (mutations-ordered schema tokens a k)) r.1 (ap (λ (x : Entry). not (is_pending a x)) t.value ∙ s.settled);
      value = t.value;
    }

gives-settled : (schema : Shape) (tokens : List (Token Entry)) (a : Name) → AreKept schema tokens → (g : GivesVersion (entries tokens) a.partition (data_version a)) → 0 < ver (entries tokens) a → Settles a g.entry
gives-settled schema tokens a k g h =
    let o = log-order schema (entries tokens) g.place g.entry k.lawful g.stands in
    let v = g.version in
    settles schema (entries tokens) g.place a g.entry (number_in g.entry a.partition) refl (version-number g.entry a.partition (data_version a) o) (pending-number a g.entry o) (omega (arith, v, h))

-- where no mutation is settled the version is 0
pub version-none : (schema : Shape) (tokens : List (Token Entry)) (a : Name) → AreKept schema tokens → count_settled tokens a ≡ 0 → ver (entries tokens) a ≡ 0
version-none schema tokens a k z = go (nat_eq (ver (entries tokens) a) 0) refl (version-given (entries tokens) a.partition (data_version a))
  where
    go : (b : Bool) → nat_eq (ver (entries tokens) a) 0 ≡ b → (ver (entries tokens) a ≡ 0) ⊎ GivesVersion (entries tokens) a.partition (data_version a) → ver (entries tokens) a ≡ 0
    go b q (inl e) = e
    go true q (inr g) = grind (arith, nat_tests)
    go false q (inr g) =
        let h : 0 < ver (entries tokens) a = grind (arith, nat_tests) in
        let s = settled-at schema tokens a g.place g.entry k g.stands (gives-settled schema tokens a k g h) in
        let c = s.counted in
        absurd (omega (arith, c, z))

-- else it is that of the last settled one
last-most : (schema : Shape) (tokens : List (Token Entry)) (a : Name) (u : Token Entry) → AreKept schema tokens → slice_get (mutation_tokens tokens) (count_settled tokens a - 1) ≡ Some u → is_mutation u.value ≡ true → entry_at (entries tokens) u.place ≡ Some u.value → not (is_pending a u.value) ≡ true → ver (entries tokens) a ≤ version_at u.value a.partition (data_version a)
last-most schema tokens a u k h m e s = go (nat_eq (ver (entries tokens) a) 0) refl (version-given (entries tokens) a.partition (data_version a))
  where
    order : (x : Entry) (i : ℕ) → entry_at (entries tokens) i ≡ Some x → version_at x a.partition (data_version a) ≡ at_most (data_version a) (number_in x a.partition)
    order x i q = version-number x a.partition (data_version a) (log-order schema (entries tokens) i x k.lawful q)

    before : (g : GivesVersion (entries tokens) a.partition (data_version a)) → Settles a g.entry → (t : Token Entry) → t.value ≡ g.entry → Has (mutation_tokens tokens) t → t.place < u.place → ver (entries tokens) a ≤ version_at u.value a.partition (data_version a)
    before g w t q i l =
        let held = entry-held schema tokens t k (Has-filter (λ x. is_mutation x.value) tokens t i).0 in
        let v = later-above schema (entries tokens) t.place u.place t.value u.value a.partition (version_at g.entry a.partition (data_version a)) k.lawful held e l m (subst (λ (x : Entry). IsMutationWith (Some x) a.partition (version_at g.entry a.partition (data_version a))) (sym q) w.taken) in
        let o = log-order schema (entries tokens) u.place u.value k.lawful e in
        let n : number_in u.value a.partition ≡ Some v.number = with-in u.value a.partition v.number o v.taken in
        let r = settled-number a u.value (Some v.number) (version-number u.value a.partition (data_version a) o ∙ ap (at_most (data_version a)) n) (pending-number a u.value o ∙ ap (passes (λ k. nat_lt (data_version a) k)) n) s in
        let x = v.above in
        let y = g.version in
        omega (arith, r, x, y)

    settled : (g : GivesVersion (entries tokens) a.partition (data_version a)) → Settles a g.entry → IsSettledAt tokens a g.entry → ver (entries tokens) a ≤ version_at u.value a.partition (data_version a)
    settled g w t = part (nat_eq t.at (count_settled tokens a - 1)) refl
      where
        part : (b : Bool) → nat_eq t.at (count_settled tokens a - 1) ≡ b → ver (entries tokens) a ≤ version_at u.value a.partition (data_version a)
        part true q =
            let n : t.at ≡ count_settled tokens a - 1 = grind (arith, nat_tests) in
            let c : t.token ≡ u = some-same t.token u (sym t.stands ∙ (ap (slice_get (mutation_tokens tokens)) n ∙ h)) in
            let r = ap (λ (x : Entry). version_at x a.partition (data_version a)) (sym t.value ∙ ap (λ (x : Token Entry). x.value) c) in
            let y = g.version in
            omega (arith, r, y)
        part false q =
            let d = t.counted in
            let n : t.at < count_settled tokens a - 1 = grind (arith, nat_tests) in
            before g w t.token t.value (get-has (mutation_tokens tokens) t.at t.token t.stands) (Pairwise-at (λ x y. x.place < y.place) (mutation_tokens tokens) t.at (count_settled tokens a - 1) t.token u (mutations-rise schema tokens k) t.stands h n)

    go : (b : Bool) → nat_eq (ver (entries tokens) a) 0 ≡ b → (ver (entries tokens) a ≡ 0) ⊎ GivesVersion (entries tokens) a.partition (data_version a) → ver (entries tokens) a ≤ version_at u.value a.partition (data_version a)
    go b q (inl z) = omega (arith, z)
    go true q (inr g) = let z : ver (entries tokens) a ≡ 0 = grind (arith, nat_tests) in omega (arith, z)
    go false q (inr g) =
        let l : 0 < ver (entries tokens) a = grind (arith, nat_tests) in
        let w = gives-settled schema tokens a k g l in
        settled g w (settled-at schema tokens a g.place g.entry k g.stands w)

pub version-last : (schema : Shape) (tokens : List (Token Entry)) (a : Name) (u : Token Entry) → AreKept schema tokens → 0 < count_settled tokens a → slice_get (mutation_tokens tokens) (count_settled tokens a - 1) ≡ Some u → ver (entries tokens) a ≡ unwrap_or (number_in u.value a.partition) 0
version-last schema tokens a u k c h =
    let q = Has-filter (λ x. is_mutation x.value) tokens u (get-has (mutation_tokens tokens) (count_settled tokens a - 1) u h) in
    let e = entry-held schema tokens u k q.0 in
    let s = below-passes (is_settled a) (mutation_tokens tokens) (count_settled tokens a - 1) u h (omega (arith, c)) in
    let o = log-order schema (entries tokens) u.place u.value k.lawful e in
    let low = last-most schema tokens a u k h q.1 e s in
    let high = at-below (entries tokens) u.value a.partition (data_version a) (entry-has (entries tokens) u.place u.value e) in
    let same : ver (entries tokens) a ≡ version_at u.value a.partition (data_version a) = omega (arith, low, high) in
    same ∙ settled-number a u.value (number_in u.value a.partition) (version-number u.value a.partition (data_version a) o) (pending-number a u.value o) s

-- what the search answers
pub answer-none : (schema : Shape) (tokens all : List (Token Entry)) (a : Name) (n : ℕ) → AreKept schema tokens → all ≡ mutation_tokens tokens → n ≡ prefix_len (is_settled a) all → n ≡ 0 → 0 ≡ ver (entries tokens) a
answer-none schema tokens all a n k e q z = sym (version-none schema tokens a k (sym (ap (λ (xs : List (Token Entry)). prefix_len (is_settled a) xs) e) ∙ (sym q ∙ z)))

-- the last of the settled mutations
pub settled-token : (tokens all : List (Token Entry)) (a : Name) (n : ℕ) (u : Token Entry) → all ≡ mutation_tokens tokens → n ≡ prefix_len (is_settled a) all → 0 < n → n ≤ length all → u ≡ get_or all (n - 1) u → slice_get (mutation_tokens tokens) (count_settled tokens a - 1) ≡ Some u
settled-token tokens all a n u = last-counted (is_settled a) all (mutation_tokens tokens) n u

pub settled-order : (schema : Shape) (tokens : List (Token Entry)) (i : ℕ) (u : Token Entry) → AreKept schema tokens → slice_get (mutation_tokens tokens) i ≡ Some u → HasOrder u.value
settled-order schema tokens i u k h =
    let q = Has-filter (λ x. is_mutation x.value) tokens u (get-has (mutation_tokens tokens) i u h) in
    log-order schema (entries tokens) u.place u.value k.lawful (entry-held schema tokens u k q.0)

pub answer-some : (schema : Shape) (tokens all : List (Token Entry)) (a : Name) (n : ℕ) (u : Token Entry) (e : Entry) (p o : Option ℕ) → AreKept schema tokens → all ≡ mutation_tokens tokens → n ≡ prefix_len (is_settled a) all → 0 < n → n ≤ length all → u ≡ get_or all (n - 1) u → e ≡ u.value → p ≡ a.partition → o ≡ number_in e p → unwrap_or o 0 ≡ ver (entries tokens) a
answer-some schema tokens all a n u e p o k s q h l w f g r =
    let c : n ≡ count_settled tokens a = q ∙ ap (λ (xs : List (Token Entry)). prefix_len (is_settled a) xs) s in
    let number : o ≡ number_in u.value a.partition = r ∙ (ap (λ (x : Entry). number_in x p) f ∙ ap (number_in u.value) g) in
    ap (λ (x : Option ℕ). unwrap_or x 0) number
    ∙ sym (version-last schema tokens a u k (omega (arith, c, h)) (settled-token tokens all a n u s q h l w))

-- ---- the last pending mutation

last-none : (log : List Entry) (a : Name) (upto : ℕ) → ((j : ℕ) (x : Entry) → j < upto → entry_at log j ≡ Some x → is_pending a x ≡ false) → last_pending log a upto ≡ None
last-none [] a upto f = refl
last-none (z ∷ log) a upto f = go (nat_lt (length log) upto) refl (last-none log a upto (λ j x l e. f j x l (entry-older z log j x e)))
  where
    at : entry_at (z ∷ log) (length log) ≡ Some z
    at = let t : nat_eq (length log) (length log) ≡ true = grind (arith, nat_tests) in ap (λ (b : Bool). cond b (Some z) (entry_at log (length log))) t

    go : (b : Bool) → nat_lt (length log) upto ≡ b → last_pending log a upto ≡ None → cond (b && is_pending a z) (Some (length log)) (last_pending log a upto) ≡ None
    go true q older = let l : length log < upto = grind (arith, nat_tests) in ap (λ (b : Bool). cond b (Some (length log)) (last_pending log a upto)) (f (length log) z l at) ∙ older
    go false q older = older

last-some : (log : List Entry) (a : Name) (upto i : ℕ) (e : Entry) → entry_at log i ≡ Some e → i < upto → is_pending a e ≡ true → ((j : ℕ) (x : Entry) → i < j → j < upto → entry_at log j ≡ Some x → is_pending a x ≡ false) → last_pending log a upto ≡ Some i
last-some [] a upto i e h l t f = absurd (cc)
last-some (z ∷ log) a upto i e h l t f = elim (entry-cases z log i e h) [
  | inl s ↦ here s.0 s.1
  | inr s ↦ below s (nat_lt (length log) upto) refl (last-some log a upto i e s l t (λ j x u v w. f j x u v (entry-older z log j x w)))
]
  where
    here : i ≡ length log → z ≡ e → last_pending (z ∷ log) a upto ≡ Some i
    here n q =
        let b : nat_lt (length log) upto ≡ true = grind (arith, nat_tests) in
        ap (λ (b : Bool). cond (b && is_pending a z) (Some (length log)) (last_pending log a upto)) b
        ∙ (ap (λ (b : Bool). cond b (Some (length log)) (last_pending log a upto)) (ap (is_pending a) q ∙ t) ∙ ap Some (sym n))

    at : entry_at (z ∷ log) (length log) ≡ Some z
    at = let t : nat_eq (length log) (length log) ≡ true = grind (arith, nat_tests) in ap (λ (b : Bool). cond b (Some z) (entry_at log (length log))) t

    below : entry_at log i ≡ Some e → (b : Bool) → nat_lt (length log) upto ≡ b → last_pending log a upto ≡ Some i → cond (b && is_pending a z) (Some (length log)) (last_pending log a upto) ≡ Some i
    below s true q r =
        let m : length log < upto = grind (arith, nat_tests) in
        ap (λ (b : Bool). cond b (Some (length log)) (last_pending log a upto)) (f (length log) z (entry-below log i e s) m at) ∙ r
    below s false q r = r

-- it isn't so where each mutation below denies it
denied : (a : Name) (x : Entry) → (is_pending a x ≡ true → ⊥) → is_pending a x ≡ false
denied a x f = go (is_pending a x) refl
  where
    go : (b : Bool) → is_pending a x ≡ b → b ≡ false
    go true e = absurd (f e)
    go false e = refl

pub last-empty : (schema : Shape) (tokens : List (Token Entry)) (a : Name) (upto : ℕ) → AreKept schema tokens → count_under tokens upto ≡ 0 → last_pending (entries tokens) a upto ≡ None
last-empty schema tokens a upto k z = last-none (entries tokens) a upto (λ j x l e. denied a x (λ t.
    let c = counted-under schema tokens upto j x k e (pending-mutation a x t) l in let d = c.counted in absurd (omega (arith, d, z))))

pub last-settled : (schema : Shape) (tokens : List (Token Entry)) (a : Name) (upto : ℕ) (u : Token Entry) → AreKept schema tokens → slice_get (mutation_tokens tokens) (count_under tokens upto - 1) ≡ Some u → is_pending a u.value ≡ false → last_pending (entries tokens) a upto ≡ None
last-settled schema tokens a upto u k h n = last-none (entries tokens) a upto (λ j x l e. denied a x (λ t. deny x t (counted-under schema tokens upto j x k e (pending-mutation a x t) l)))
  where
    deny : {j : ℕ} (x : Entry) → is_pending a x ≡ true → IsCounted (mutation_tokens tokens) (count_under tokens upto) j x → ⊥
    deny x t c = part (nat_eq c.at (count_under tokens upto - 1)) refl
      where
        pends : is_pending a c.token.value ≡ true
        pends = ap (is_pending a) c.value ∙ t

        part : (b : Bool) → nat_eq c.at (count_under tokens upto - 1) ≡ b → ⊥
        part true q =
            let m : c.at ≡ count_under tokens upto - 1 = grind (arith, nat_tests) in
            let s : c.token ≡ u = some-same c.token u (sym c.stands ∙ (ap (slice_get (mutation_tokens tokens)) m ∙ h)) in
            let r = ap (λ (y : Token Entry). is_pending a y.value) s in
            let w = pends in
            absurd (cc)
        part false q =
            let d = c.counted in
            let m : c.at < count_under tokens upto - 1 = grind (arith, nat_tests) in
            let s = Pairwise-at (λ x y. is_settled a y ≡ true → is_settled a x ≡ true) (mutation_tokens tokens) c.at (count_under tokens upto - 1) c.token u (AreOrdered.settled (mutations-ordered schema tokens a k)) c.stands h m (ap not n) in
            let w = ap not pends in
            absurd (cc)

pub last-pends : (schema : Shape) (tokens : List (Token Entry)) (a : Name) (upto : ℕ) (u : Token Entry) → AreKept schema tokens → 0 < count_under tokens upto → slice_get (mutation_tokens tokens) (count_under tokens upto - 1) ≡ Some u → is_pending a u.value ≡ true → last_pending (entries tokens) a upto ≡ Some u.place
last-pends schema tokens a upto u k c h t =
    let q = Has-filter (λ x. is_mutation x.value) tokens u (get-has (mutation_tokens tokens) (count_under tokens upto - 1) u h) in
    let b = below-passes (is_below upto) (mutation_tokens tokens) (count_under tokens upto - 1) u h (omega (arith, c)) in
    last-some (entries tokens) a upto u.place u.value (entry-held schema tokens u k q.0) (grind (arith, nat_tests)) t (λ j x l m e. denied a x (λ w. past j x l (counted-under schema tokens upto j x k e (pending-mutation a x w) m)))
  where
    past : (j : ℕ) (x : Entry) → u.place < j → IsCounted (mutation_tokens tokens) (count_under tokens upto) j x → ⊥
    past j x l c = part (nat_eq c.at (count_under tokens upto - 1)) refl
      where
        part : (b : Bool) → nat_eq c.at (count_under tokens upto - 1) ≡ b → ⊥
        part true q =
            let m : c.at ≡ count_under tokens upto - 1 = grind (arith, nat_tests) in
            let s : c.token ≡ u = some-same c.token u (sym c.stands ∙ (ap (slice_get (mutation_tokens tokens)) m ∙ h)) in
            let r = ap (λ (y : Token Entry). y.place) s in
            let w = c.place in
            absurd (omega (arith, l, r, w))
        part false q =
            let d = c.counted in
            let m : c.at < count_under tokens upto - 1 = grind (arith, nat_tests) in
            let s = Pairwise-at (λ x y. x.place < y.place) (mutation_tokens tokens) c.at (count_under tokens upto - 1) c.token u (mutations-rise schema tokens k) c.stands h m in
            let w = c.place in
            absurd (omega (arith, l, s, w))

-- what the search answers
pub below-count : (tokens all : List (Token Entry)) (i n : ℕ) → all ≡ mutation_tokens tokens → n ≡ prefix_len (is_below i) all → n ≡ count_under tokens i
below-count tokens all i n e q = q ∙ ap (λ (xs : List (Token Entry)). prefix_len (is_below i) xs) e

pub below-token : (tokens all : List (Token Entry)) (i n : ℕ) (u : Token Entry) → all ≡ mutation_tokens tokens → n ≡ prefix_len (is_below i) all → 0 < n → n ≤ length all → u ≡ get_or all (n - 1) u → slice_get (mutation_tokens tokens) (count_under tokens i - 1) ≡ Some u
below-token tokens all i n u = last-counted (is_below i) all (mutation_tokens tokens) n u

pub answer-settled : (schema : Shape) (tokens : List (Token Entry)) (a : Name) (upto : ℕ) (u : Token Entry) (e : Entry) (b : Bool) → AreKept schema tokens → slice_get (mutation_tokens tokens) (count_under tokens upto - 1) ≡ Some u → e ≡ u.value → b ≡ is_pending a e → b ≡ false → None ≡ last_pending (entries tokens) a upto
answer-settled schema tokens a upto u e b k h q r f = sym (last-settled schema tokens a upto u k h (sym (ap (is_pending a) q) ∙ (sym r ∙ f)))

pub answer-pends : (schema : Shape) (tokens : List (Token Entry)) (a : Name) (upto n : ℕ) (u : Token Entry) (e : Entry) (b : Bool) (place : ℕ) → AreKept schema tokens → n ≡ count_under tokens upto → 0 < n → slice_get (mutation_tokens tokens) (count_under tokens upto - 1) ≡ Some u → e ≡ u.value → b ≡ is_pending a e → b ≡ true → place ≡ u.place → Some place ≡ last_pending (entries tokens) a upto
answer-pends schema tokens a upto n u e b place k c l h q r f p =
    ap Some p ∙ sym (last-pends schema tokens a upto u k (omega (arith, c, l)) h (sym (ap (is_pending a) q) ∙ (sym r ∙ f)))
