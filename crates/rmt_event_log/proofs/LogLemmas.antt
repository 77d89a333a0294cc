-- Pairs that are stored, and pairs that are rare.
use Rattle.std.proofs.Common.{◌≡◌, ◌∙◌, ℕ, ◌+◌, zero, suc, List, [], ◌∷◌, ◌++◌, length, map, reverse, refl, sym, ap, subst, arith}
use Rattle.std.specs.Prelude.{slice_get, slice_index_or}
use Rattle.std.specs.declared.option.Option.TheVariants.{Some}
use Rattle.std.proofs.lemmas.List.{get_or_append_left, map-append, reverse-append}
use Rattle.rmt_model.specs.Words.{Each}
use Rattle.rmt_events.specs.declared.event.Event.{Event}
use Rattle.rmt_events.specs.declared.event.Event.TheVariants as ev
use Rattle.rmt_events.specs.declared.reply.Reply.{Reply}
use Rattle.rmt_events.specs.declared.reply.Reply.TheVariants as rp
use Rattle.rmt_event_log.specs.declared.stored.Stored.{Stored}
use Rattle.rmt_event_log.specs.declared.stored.Stored.TheVariants as st
use Rattle.rmt_event_log.specs.EventLogs.{IsSamePair, IsPairAt}
use Rattle.rmt_event_log.specs.Inside.{pair_of, IsSound, IsStoredAs}

-- the pairs that are stored so, the newest first
abbrev pub pairs : List (Event × Reply) → List Stored → List (Event × Reply)
pairs rare stored = reverse (map (pair_of rare) stored)

-- ---- one more rare pair

pair-more : (rare : List (Event × Reply)) (x : Event × Reply) (s : Stored) → IsSound (length rare) s → pair_of (rare ++ x ∷ []) s ≡ pair_of rare s
pair-more rare x (st.Numbered k need id n b) h = refl
pair-more rare x (st.Repeated k need n b) h = refl
pair-more rare x (st.Staged id) h = refl
pair-more rare x (st.StagedDown id) h = refl
pair-more rare x (st.Committed id i) h = refl
pair-more rare x (st.CommittedDown id) h = refl
pair-more rare x (st.Abandoned id) h = refl
pair-more rare x (st.Pulled k n) h = refl
pair-more rare x (st.PulledDown k) h = refl
pair-more rare x (st.Applied k d i) h = refl
pair-more rare x (st.AppliedDown k i) h = refl
pair-more rare x (st.Missing k has_one i p low high level mutation) h = refl
pair-more rare x (st.Killed k) h = refl
pair-more rare x (st.Restarted k) h = refl
pair-more rare x (st.Noted k b) h = refl
pair-more rare x (st.Rare i) h = get_or_append_left rare (x ∷ []) (ev.Pull 0, rp.Done) i h

pairs-more : (rare : List (Event × Reply)) (x : Event × Reply) (stored : List Stored) → Each (IsSound (length rare)) stored → map (pair_of (rare ++ x ∷ [])) stored ≡ map (pair_of rare) stored
pairs-more rare x [] h = refl
pairs-more rare x (s ∷ stored) h =
    ap (λ (p : Event × Reply). p ∷ map (pair_of (rare ++ x ∷ [])) stored) (pair-more rare x s h.0) ∙ ap (λ (ps : List (Event × Reply)). pair_of rare s ∷ ps) (pairs-more rare x stored h.1)

sound-more : (n : ℕ) (s : Stored) → IsSound n s → IsSound (n + 1) s
sound-more n (st.Numbered k need id m b) h = tt
sound-more n (st.Repeated k need m b) h = tt
sound-more n (st.Staged id) h = tt
sound-more n (st.StagedDown id) h = tt
sound-more n (st.Committed id i) h = tt
sound-more n (st.CommittedDown id) h = tt
sound-more n (st.Abandoned id) h = tt
sound-more n (st.Pulled k m) h = tt
sound-more n (st.PulledDown k) h = tt
sound-more n (st.Applied k d i) h = tt
sound-more n (st.AppliedDown k i) h = tt
sound-more n (st.Missing k has_one i p low high level mutation) h = h
sound-more n (st.Killed k) h = tt
sound-more n (st.Restarted k) h = tt
sound-more n (st.Noted k b) h = tt
sound-more n (st.Rare i) h = omega (arith, h)

all-more : (n : ℕ) (stored : List Stored) → Each (IsSound n) stored → Each (IsSound (n + 1)) stored
all-more n [] h = tt
all-more n (s ∷ stored) h = (sound-more n s h.0, all-more n stored h.1)

-- ---- the pair that is stored last

Each-last : {A : Type 0} (P : A → Type 0) (xs : List A) (x : A) → Each P xs → P x → Each P (xs ++ x ∷ [])
Each-last P [] x e p = (p, tt)
Each-last P (y ∷ xs) x e p = (e.0, Each-last P xs x e.1 p)

pub pairs-last : (rare : List (Event × Reply)) (stored : List Stored) (s : Stored) → pairs rare (stored ++ s ∷ []) ≡ pair_of rare s ∷ pairs rare stored
pairs-last rare stored s = ap reverse (map-append (pair_of rare) stored (s ∷ [])) ∙ reverse-append (map (pair_of rare) stored) (pair_of rare s ∷ [])

-- a pair that isn't rare
pub frequent-last : (rare : List (Event × Reply)) (stored news : List Stored) (s : Stored) (e : Event) (r : Reply) → IsStoredAs e r s → news ≡ stored ++ s ∷ [] → pairs rare news ≡ (e, r) ∷ pairs rare stored
frequent-last rare stored news s e r h q =
    ap (pairs rare) q ∙ (pairs-last rare stored s ∙ ap (λ (p : Event × Reply). p ∷ pairs rare stored) (h.pair rare))

pub frequent-sound : (n : ℕ) (stored news : List Stored) (s : Stored) (e : Event) (r : Reply) → IsStoredAs e r s → news ≡ stored ++ s ∷ [] → Each (IsSound n) stored → Each (IsSound n) news
frequent-sound n stored news s e r h q k = subst (Each (IsSound n)) (sym q) (Each-last (IsSound n) stored s k (h.sound n))

last-one : (rare : List (Event × Reply)) (x d : Event × Reply) → slice_index_or (rare ++ x ∷ []) (length rare) d ≡ x
last-one [] x d = refl
last-one (y ∷ rare) x d = last-one rare x d

-- a rare one
pub rare-last : (rare more : List (Event × Reply)) (stored news : List Stored) (i : ℕ) (x : Event × Reply) → i ≡ length rare → more ≡ rare ++ x ∷ [] → news ≡ stored ++ st.Rare i ∷ [] → Each (IsSound (length rare)) stored
    → pairs more news ≡ x ∷ pairs rare stored
rare-last rare more stored news i x e m q h =
    ap (λ (ps : List (Event × Reply)). pairs ps news) m
    ∙ (ap (pairs (rare ++ x ∷ [])) q
    ∙ (pairs-last (rare ++ x ∷ []) stored (st.Rare i)
    ∙ (ap (λ (p : Event × Reply). p ∷ pairs (rare ++ x ∷ []) stored) (ap (λ j. slice_index_or (rare ++ x ∷ []) j (ev.Pull 0, rp.Done)) e ∙ last-one rare x (ev.Pull 0, rp.Done))
    ∙ ap (λ (ps : List (Event × Reply)). x ∷ reverse ps) (pairs-more rare x stored h))))

more-len : (rare : List (Event × Reply)) (x : Event × Reply) → length (rare ++ x ∷ []) ≡ length rare + 1
more-len [] x = refl
more-len (y ∷ rare) x = let h = more-len rare x in omega (arith, h)

pub rare-sound : (rare more : List (Event × Reply)) (stored news : List Stored) (i : ℕ) (x : Event × Reply) → i ≡ length rare → more ≡ rare ++ x ∷ [] → news ≡ stored ++ st.Rare i ∷ [] → Each (IsSound (length rare)) stored → Each (IsSound (length more)) news
rare-sound rare more stored news i x e m q h =
    let n = ap length m ∙ more-len rare x in
    subst (Each (IsSound (length more))) (sym q)
    (Each-last (IsSound (length more)) stored (st.Rare i) (subst (λ k. Each (IsSound k) stored) (sym n) (all-more (length rare) stored h)) (omega (arith, e, n)))

-- ---- the pair at a place

reverse-twice : {A : Type 0} (xs : List A) → reverse (reverse xs) ≡ xs
reverse-twice [] = refl
reverse-twice (x ∷ xs) = ap reverse (reverse-append (x ∷ []) xs) ∙ (reverse-append (reverse xs) (x ∷ []) ∙ ap (λ ys. x ∷ ys) (reverse-twice xs))

Each-get : {A : Type 0} (P : A → Type 0) (xs : List A) (i : ℕ) (x : A) → Each P xs → slice_get xs i ≡ Some x → P x
Each-get P [] i x e q = absurd (cc)
Each-get P (y ∷ xs) zero x e q = subst P (cc) e.0
Each-get P (y ∷ xs) (suc i) x e q = Each-get P xs i x e.1 q

pub sound-at : (n : ℕ) (stored : List Stored) (i : ℕ) (s : Stored) → Each (IsSound n) stored → slice_get stored i ≡ Some s → IsSound n s
sound-at n stored i s e q = Each-get (IsSound n) stored i s e q

pub read-at : (rare : List (Event × Reply)) (stored : List Stored) (i : ℕ) (s : Stored) (read : Event × Reply) → slice_get stored i ≡ Some s → IsSamePair (pair_of rare s) read → IsPairAt (pairs rare stored) i read
read-at rare stored i s read q h = record {
  pair = pair_of rare s;
  stands = ap (λ (ps : List (Event × Reply)). slice_get ps i) (reverse-twice (map (pair_of rare) stored)) ∙ at stored i q;
  same = h;
}
  where
    at : (xs : List Stored) (j : ℕ) → slice_get xs j ≡ Some s → slice_get (map (pair_of rare) xs) j ≡ Some (pair_of rare s)
    at [] j e = absurd (cc)
    at (x ∷ xs) zero e = ap Some (ap (pair_of rare) (cc))
    at (x ∷ xs) (suc j) e = at xs j e
