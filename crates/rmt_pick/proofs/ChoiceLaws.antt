-- What the best run is.
use Rattle.std.proofs.Common.{◌≡◌, ℕ, zero, suc, ◌-◌, ◌<◌, ◌≤◌, ◌&&◌, inl, inr, Bool, true, false, cond, List, [], ◌∷◌, ◌++◌, length, refl, sym, ap, subst, arith, ◌∙◌, nat_le}
use Rattle.std.proofs.lemmas.Bool.Decides.{nat_tests}
use Rattle.std.specs.declared.option.Option.{Option}
use Rattle.std.specs.declared.option.Option.TheVariants.{Some, None}
use Rattle.rmt_names.specs.Names.{Name, rank}
use Rattle.rmt_entries.specs.declared.entry.Entry.{Entry}
use Rattle.rmt_model.specs.Words.{Has}
use Rattle.rmt_model.specs.Live.{live}
use Rattle.rmt_model.specs.Lawful.{ver}
use Rattle.rmt_model.proofs.Lists.{rank-injective}
use Rattle.rmt_model.proofs.Drops.{some-same}
use Rattle.rmt_pick.specs.MergeChoices.{IsChoice, IsFirstChoice, NoneAlike}
use Rattle.rmt_model.specs.Choices.{are_alike, alike_after, run_at, greatest_level, better, best_run}

-- ---- runs

after-few : (log : List Entry) (n : ℕ) (a : Name) (names : List Name) → length (alike_after log n a names) ≤ n
after-few log zero a names = omega arith
after-few log (suc n) a [] = omega arith
after-few log (suc n) a (b ∷ names) = go (are_alike log a b) (after-few log n b names)
  where
    go : (c : Bool) → length (alike_after log n b names) ≤ n → length (cond c (b ∷ alike_after log n b names) []) ≤ suc n
    go true h = omega (arith, h)
    go false h = omega arith

are-alike-means : (log : List Entry) (a b : Name) → are_alike log a b ≡ true → (b.partition ≡ a.partition) × (ver log b ≡ ver log a)
are-alike-means log a b h =
    let r : rank a.partition ≡ rank b.partition = grind (arith, nat_tests) in
    let v : ver log a ≡ ver log b = grind (arith, nat_tests) in
    (sym (rank-injective a.partition b.partition r), sym v)

after-alike : (log : List Entry) (n : ℕ) (a : Name) (names : List Name) (c : Name) → Has (alike_after log n a names) c → (c.partition ≡ a.partition) × (ver log c ≡ ver log a)
after-alike log zero a names c h = absurd h
after-alike log (suc n) a [] c h = absurd h
after-alike log (suc n) a (b ∷ names) c h = go (are_alike log a b) refl h (after-alike log n b names c)
  where
    go : (t : Bool) → are_alike log a b ≡ t → Has (cond t (b ∷ alike_after log n b names) []) c → (Has (alike_after log n b names) c → (c.partition ≡ b.partition) × (ver log c ≡ ver log b)) → (c.partition ≡ a.partition) × (ver log c ≡ ver log a)
    go true e (inl q) f = let r = are-alike-means log a b e in (ap (λ (x : Name). x.partition) (sym q) ∙ r.0, ap (ver log) (sym q) ∙ r.1)
    go true e (inr k) f = let r = are-alike-means log a b e in let s = f k in (s.0 ∙ r.0, s.1 ∙ r.1)
    go false e k f = absurd k

run-alike : (log : List Entry) (most : ℕ) (names : List Name) (a b : Name) → Has (run_at log most names) a → Has (run_at log most names) b → (a.partition ≡ b.partition) × (ver log a ≡ ver log b)
run-alike log most [] a b h k = absurd h
run-alike log most (x ∷ names) a b h k = let r = to-first a h in let s = to-first b k in (r.0 ∙ sym s.0, r.1 ∙ sym s.1)
  where
    to-first : (c : Name) → Has (x ∷ alike_after log (most - 1) x names) c → (c.partition ≡ x.partition) × (ver log c ≡ ver log x)
    to-first c (inl q) = (ap (λ (y : Name). y.partition) (sym q), ap (ver log) (sym q))
    to-first c (inr i) = after-alike log (most - 1) x names c i

-- the run is a prefix of the names
run-rest : (log : List Entry) (most : ℕ) (names : List Name) → (rest : List Name) × (run_at log most names ++ rest ≡ names)
run-rest log most [] = ([], refl)
run-rest log most (a ∷ names) = let r = after (most - 1) a names in (r.0, ap (λ (l : List Name). a ∷ l) r.1)
  where
    after : (n : ℕ) (a : Name) (names : List Name) → (rest : List Name) × (alike_after log n a names ++ rest ≡ names)
    after zero a names = (names, refl)
    after (suc n) a [] = ([], refl)
    after (suc n) a (b ∷ names) = go (are_alike log a b) (after n b names)
      where
        go : (t : Bool) → (rest : List Name) × (alike_after log n b names ++ rest ≡ names) → (rest : List Name) × (cond t (b ∷ alike_after log n b names) [] ++ rest ≡ b ∷ names)
        go true r = (r.0, ap (λ (l : List Name). b ∷ l) r.1)
        go false r = (b ∷ names, refl)

-- ---- the best run

record Found (log : List Entry) (most : ℕ) (all names : List Name) : Type 0 where
  pub left : List Name
  pub tail : List Name
  pub is : left ++ tail ≡ all
  pub run : names ≡ run_at log most tail
  pub some : 2 ≤ length names

best-found : (log : List Entry) (most : ℕ) (all names : List Name) → best_run log most all ≡ Some names → Found log most all names
best-found log most [] names e = absurd (cc)
best-found log most (a ∷ all) names e = go (best_run log most all) refl e (best-found log most all)
  where
    run : List Name
    run = run_at log most (a ∷ all)

    here : (t : Bool) → nat_le 2 (length (run_at log most (a ∷ all))) ≡ true → run_at log most (a ∷ all) ≡ names → Found log most (a ∷ all) names
    here t h q = record { left = []; tail = a ∷ all; is = refl; run = sym q; some = let n = ap length q in grind (arith, nat_tests) }

    go : (o : Option (List Name)) → best_run log most all ≡ o → better (run_at log most (a ∷ all)) o ≡ Some names → ((other : List Name) → best_run log most all ≡ Some other → Found log most all other) → Found log most (a ∷ all) names
    go None q k f = test (nat_le 2 (length (run_at log most (a ∷ all)))) refl k
      where
        test : (t : Bool) → nat_le 2 (length (run_at log most (a ∷ all))) ≡ t → cond t (Some (run_at log most (a ∷ all))) None ≡ Some names → Found log most (a ∷ all) names
        test true h w = here true h (some-same _ _ w)
        test false h w = absurd (cc)
    go (Some other) q k f = test (nat_le 2 (length (run_at log most (a ∷ all)))) refl (nat_le (greatest_level (run_at log most (a ∷ all))) (greatest_level other)) k
      where
        later : other ≡ names → Found log most (a ∷ all) names
        later w =
            let r = f other q in
            record { left = a ∷ r.left; tail = r.tail; is = ap (λ (l : List Name). a ∷ l) r.is; run = sym w ∙ r.run; some = let n = ap length w in let s = r.some in omega (arith, n, s) }

        test : (t : Bool) → nat_le 2 (length (run_at log most (a ∷ all))) ≡ t → (u : Bool) → cond (t && u) (Some (run_at log most (a ∷ all))) (Some other) ≡ Some names → Found log most (a ∷ all) names
        test true h true w = here true h (some-same _ _ w)
        test true h false w = later (some-same _ _ w)
        test false h u w = later (some-same _ _ w)

-- where there is no best run, no run has two names
best-nothing : (log : List Entry) (most : ℕ) (all : List Name) → best_run log most all ≡ None → (left right : List Name) → left ++ right ≡ all → length (run_at log most right) < 2
best-nothing log most [] e [] right q = let n = ap (λ (l : List Name). length (run_at log most l)) q in omega (arith, n)
best-nothing log most [] e (l ∷ left) right q = absurd (cc)
best-nothing log most (a ∷ all) e left right q = go (best_run log most all) refl e left q (best-nothing log most all)
  where
    go : (o : Option (List Name)) → best_run log most all ≡ o → better (run_at log most (a ∷ all)) o ≡ None → (left : List Name) → left ++ right ≡ a ∷ all → (best_run log most all ≡ None → (left right : List Name) → left ++ right ≡ all → length (run_at log most right) < 2) → length (run_at log most right) < 2
    go None w k [] p f = test (nat_le 2 (length (run_at log most (a ∷ all)))) refl k
      where
        test : (t : Bool) → nat_le 2 (length (run_at log most (a ∷ all))) ≡ t → ◌≡◌ {A = Option (List Name)} (cond t (Some (run_at log most (a ∷ all))) None) None → length (run_at log most right) < 2
        test true h x = absurd (cc)
        test false h x = let n = ap (λ (l : List Name). length (run_at log most l)) p in grind (arith, nat_tests)
    go None w k (l ∷ left) p f = f w left right (cc)
    go (Some other) w k left p f = test (nat_le 2 (length (run_at log most (a ∷ all))) && nat_le (greatest_level (run_at log most (a ∷ all))) (greatest_level other)) k
      where
        test : (t : Bool) → ◌≡◌ {A = Option (List Name)} (cond t (Some (run_at log most (a ∷ all))) (Some other)) None → length (run_at log most right) < 2
        test true x = absurd (cc)
        test false x = absurd (cc)

-- no other run has a lower greatest level
best-least : (log : List Entry) (most : ℕ) (all names : List Name) → best_run log most all ≡ Some names → (left right : List Name) → left ++ right ≡ all → 2 ≤ length (run_at log most right) → greatest_level names ≤ greatest_level (run_at log most right)
best-least log most [] names e left right q h = absurd (cc)
best-least log most (a ∷ all) names e left right q h = go (best_run log most all) refl e left q (best-least log most all) (best-nothing log most all)
  where
    go : (o : Option (List Name)) → best_run log most all ≡ o → better (run_at log most (a ∷ all)) o ≡ Some names → (left : List Name) → left ++ right ≡ a ∷ all → ((other : List Name) → best_run log most all ≡ Some other → (left right : List Name) → left ++ right ≡ all → 2 ≤ length (run_at log most right) → greatest_level other ≤ greatest_level (run_at log most right)) → (best_run log most all ≡ None → (left right : List Name) → left ++ right ≡ all → length (run_at log most right) < 2) → greatest_level names ≤ greatest_level (run_at log most right)
    go None w k (l ∷ left) p f g = let n = g w left right (cc) in absurd (omega (arith, n, h))
    go None w k [] p f g = test (nat_le 2 (length (run_at log most (a ∷ all)))) k
      where
        test : (t : Bool) → cond t (Some (run_at log most (a ∷ all))) None ≡ Some names → greatest_level names ≤ greatest_level (run_at log most right)
        test true x = let n = ap greatest_level (some-same _ _ x) in let m = ap (λ (l : List Name). greatest_level (run_at log most l)) p in omega (arith, n, m)
        test false x = absurd (cc)
    go (Some other) w k [] p f g = test (nat_le 2 (length (run_at log most (a ∷ all)))) refl (nat_le (greatest_level (run_at log most (a ∷ all))) (greatest_level other)) refl k
      where
        m : greatest_level (run_at log most right) ≡ greatest_level (run_at log most (a ∷ all))
        m = ap (λ (l : List Name). greatest_level (run_at log most l)) p

        n : length (run_at log most right) ≡ length (run_at log most (a ∷ all))
        n = ap (λ (l : List Name). length (run_at log most l)) p

        test : (t : Bool) → nat_le 2 (length (run_at log most (a ∷ all))) ≡ t → (u : Bool) → nat_le (greatest_level (run_at log most (a ∷ all))) (greatest_level other) ≡ u → cond (t && u) (Some (run_at log most (a ∷ all))) (Some other) ≡ Some names → greatest_level names ≤ greatest_level (run_at log most right)
        test true i true j x = let s = ap greatest_level (some-same _ _ x) in let y = m in omega (arith, s, y)
        test true i false j x = let s = ap greatest_level (some-same _ _ x) in let y = m in grind (arith, nat_tests)
        test false i u j x = let y = n in absurd (grind (arith, nat_tests))
    go (Some other) w k (l ∷ left) p f g = test (nat_le 2 (length (run_at log most (a ∷ all)))) (nat_le (greatest_level (run_at log most (a ∷ all))) (greatest_level other)) refl k
      where
        low : greatest_level other ≤ greatest_level (run_at log most right)
        low = f other w left right (cc) h

        test : (t : Bool) → (u : Bool) → nat_le (greatest_level (run_at log most (a ∷ all))) (greatest_level other) ≡ u → cond (t && u) (Some (run_at log most (a ∷ all))) (Some other) ≡ Some names → greatest_level names ≤ greatest_level (run_at log most right)
        test true true j x = let s = ap greatest_level (some-same _ _ x) in let y = low in let z : greatest_level (run_at log most (a ∷ all)) ≤ greatest_level other = grind (arith, nat_tests) in omega (arith, s, y, z)
        test true false j x = let s = ap greatest_level (some-same _ _ x) in let y = low in omega (arith, s, y)
        test false u j x = let s = ap greatest_level (some-same _ _ x) in let y = low in omega (arith, s, y)

-- the best run of the live names is a choice
pub best-is-choice : (log : List Entry) (most : ℕ) (names : List Name) → 2 ≤ most → best_run log most (live log) ≡ Some names → IsChoice log most names
best-is-choice log most names m e =
    let f = best-found log most (live log) names e in
    let r = run-rest log most f.tail in
    record {
      neighbours = record { left = f.left; right = r.0; among = ap (λ (l : List Name). f.left ++ l) (ap (λ (l : List Name). l ++ r.0) f.run ∙ r.1) ∙ f.is };
      some = f.some;
      few = let n = ap length f.run in let k = run-few log most f.tail m in omega (arith, n, k);
      alike = λ a b h k. run-alike log most f.tail a b (subst (λ (l : List Name). Has l a) f.run h) (subst (λ (l : List Name). Has l b) f.run k);
      least = best-least log most (live log) names e;
    }
  where
    run-few : (log : List Entry) (most : ℕ) (names : List Name) → 2 ≤ most → length (run_at log most names) ≤ most
    run-few log most [] h = omega arith
    run-few log most (a ∷ names) h = let k = after-few log (most - 1) a names in omega (arith, h, k)

-- where there is none, no two neighbours are alike
pub none-alike : (log : List Entry) (most : ℕ) → 2 ≤ most → best_run log most (live log) ≡ None → NoneAlike log
none-alike log most m e left right a b q = go (are_alike log a b) refl
  where
    short : length (run_at log most (a ∷ b ∷ right)) < 2
    short = best-nothing log most (live log) e left (a ∷ b ∷ right) q

    pair : (n : ℕ) → most - 1 ≡ suc n → are_alike log a b ≡ true → length (run_at log most (a ∷ b ∷ right)) ≡ suc (suc (length (alike_after log n b right)))
    pair n k t = rw k (ap (λ (c : Bool). suc (length (cond c (b ∷ alike_after log n b right) []))) t)

    go : (t : Bool) → are_alike log a b ≡ t → t ≡ false
    go false t = refl
    go true t = let s = short in let p = pair (most - 2) (omega (arith, m)) t in absurd (omega (arith, s, p))

-- ---- the first of equals

record FoundFirst (log : List Entry) (most : ℕ) (all names : List Name) : Type 0 where
  pub left : List Name
  pub right : List Name
  pub among : left ++ right ≡ all
  pub run : names ≡ run_at log most right
  pub earlier : (before after : List Name) → before ++ after ≡ all → length before < length left → 2 ≤ length (run_at log most after) → greatest_level names < greatest_level (run_at log most after)

found-here : (log : List Entry) (most : ℕ) (all names : List Name) → names ≡ run_at log most all → FoundFirst log most all names
found-here log most all names e = record { left = []; right = all; among = refl; run = e; earlier = λ before after q h t. absurd (omega (arith, h)) }

-- the first run, where it isn't the best, has a greater level or too few names
found-later : (log : List Entry) (most : ℕ) (a : Name) (all names : List Name) → (2 ≤ length (run_at log most (a ∷ all)) → greatest_level names < greatest_level (run_at log most (a ∷ all))) → FoundFirst log most all names → FoundFirst log most (a ∷ all) names
found-later log most a all names low f = record {
  left = a ∷ f.left;
  right = f.right;
  among = ap (λ (l : List Name). a ∷ l) f.among;
  run = f.run;
  earlier = earlier;
}
  where
    tail : (b : Name) (xs ys : List Name) → ◌≡◌ {A = List Name} (b ∷ xs) (a ∷ ys) → xs ≡ ys
    tail b xs ys e = cc

    earlier : (before after : List Name) → before ++ after ≡ a ∷ all → length before < length (a ∷ f.left) → 2 ≤ length (run_at log most after) → greatest_level names < greatest_level (run_at log most after)
    earlier [] after q h t =
        let r = low (subst (λ (l : List Name). 2 ≤ length (run_at log most l)) q t) in
        subst (λ (l : List Name). greatest_level names < greatest_level (run_at log most l)) (sym q) r
    earlier (b ∷ before) after q h t = f.earlier before after (tail b (before ++ after) all q) (omega (arith, h)) t

best-first : (log : List Entry) (most : ℕ) (all names : List Name) → best_run log most all ≡ Some names → FoundFirst log most all names
best-first log most [] names e = absurd (cc)
best-first log most (a ∷ all) names e = go (best_run log most all) refl e (best-first log most all)
  where
    run : List Name
    run = run_at log most (a ∷ all)

    go : (o : Option (List Name)) → best_run log most all ≡ o → better run o ≡ Some names → ((other : List Name) → best_run log most all ≡ Some other → FoundFirst log most all other) → FoundFirst log most (a ∷ all) names
    go None q k f = test (nat_le 2 (length run)) k
      where
        test : (t : Bool) → cond t (Some run) None ≡ Some names → FoundFirst log most (a ∷ all) names
        test true w = found-here log most (a ∷ all) names (sym (some-same run names w))
        test false w = absurd (cc)
    go (Some other) q k f = test (nat_le 2 (length run)) refl (nat_le (greatest_level run) (greatest_level other)) refl k
      where
        next : (2 ≤ length run → greatest_level other < greatest_level run) → other ≡ names → FoundFirst log most (a ∷ all) names
        next low w = subst (FoundFirst log most (a ∷ all)) w (found-later log most a all other low (f other q))

        test : (t : Bool) → nat_le 2 (length run) ≡ t → (u : Bool) → nat_le (greatest_level run) (greatest_level other) ≡ u → cond (t && u) (Some run) (Some other) ≡ Some names → FoundFirst log most (a ∷ all) names
        test true h true i w = found-here log most (a ∷ all) names (sym (some-same run names w))
        test true h false i w = next (λ n. higher (greatest_level run) (greatest_level other) i) (some-same other names w)
          where
            higher : (x y : ℕ) → nat_le x y ≡ false → y < x
            higher x y e = grind (arith, nat_tests)
        test false h u i w = next (λ n. absurd (short (length run) h n)) (some-same other names w)
          where
            short : (x : ℕ) → nat_le 2 x ≡ false → 2 ≤ x → ⊥
            short x e n = grind (arith, nat_tests)

-- each run that begins before the best run has a higher greatest level
pub best-is-first : (log : List Entry) (most : ℕ) (names : List Name) → best_run log most (live log) ≡ Some names → IsFirstChoice log most names
best-is-first log most names e =
    let f = best-first log most (live log) names e in
    record { left = f.left; right = f.right; among = f.among; run = f.run; earlier = f.earlier }
