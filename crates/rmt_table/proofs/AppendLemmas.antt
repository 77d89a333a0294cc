-- An entry at the end of a table's log, as the calls tell it.
use Rattle.std.proofs.Common.{◌≡◌, ℕ, ◌<◌, List, [], ◌∷◌, ◌++◌, length, sym, ap, subst, ◌∙◌}
use Rattle.rmt_row.specs.Token.{Token}
use Rattle.rmt_entries.specs.declared.entry.Entry.{Entry}
use Rattle.rmt_history.specs.Copies.{entries}
use Rattle.rmt_history.proofs.Copied.{entries-snoc, length-entries}
use Rattle.rmt_table_model.specs.Held.{Held}
use Rattle.rmt_table.specs.TableTrees.{ArePlaced, next_token, token_in, Counts, IsTableTree}
use Rattle.rmt_table.proofs.Appended.{placed-more, next-of-row}

-- each token is at its place, one more too
pub placed-snoc : (row : List ℕ) (tokens all : List (Token Entry)) (t : Token Entry) (e : Entry) → all ≡ tokens ++ t ∷ [] → t ≡ token_in row (length tokens) e → length tokens < length row → ArePlaced row tokens → ArePlaced row all
placed-snoc row tokens all t e more is room places = subst (ArePlaced row) (sym more) (placed-more row tokens t places (ap (λ (u : Token Entry). u.place) is) (next-of-row row (length tokens) e t room is))

-- so it is with the token of the next entry
pub placed-next : (h : Held) (tokens all : List (Token Entry)) (t : Token Entry) (e : Entry) → all ≡ tokens ++ t ∷ [] → t ≡ next_token h e → h.log ≡ entries tokens → length tokens < length h.row → ArePlaced h.row tokens → ArePlaced h.row all
placed-next h tokens all t e more is of room places = placed-snoc h.row tokens all t e more (is ∙ ap (λ (i : ℕ). token_in h.row i e) (ap length of ∙ length-entries tokens)) room places

-- the entries with one more
pub entries-more : (tokens all : List (Token Entry)) (t : Token Entry) (e : Entry) → all ≡ tokens ++ t ∷ [] → t.value ≡ e → entries all ≡ e ∷ entries tokens
entries-more tokens all t e is value = ap entries is ∙ entries-snoc tokens t ∙ ap (λ (x : Entry). x ∷ entries tokens) value

-- a token is the next one
pub token-next : (h now : Held) → h ≡ now → (tokens : List (Token Entry)) → entries tokens ≡ h.log → (e : Entry) (token : Token Entry) → token ≡ token_in h.row (length tokens) e → token ≡ next_token now e
token-next h now same tokens log e token is =
    is
    ∙ ap (λ (i : ℕ). token_in h.row i e) (sym (length-entries tokens) ∙ ap length log)
    ∙ ap (λ (k : Held). next_token k e) same

-- the token of an entry, by another word for that entry
pub token-of : (row : List ℕ) (tokens : List (Token Entry)) (t : Token Entry) (e f : Entry) → t ≡ token_in row (length tokens) e → e ≡ f → t ≡ token_in row (length tokens) f
token-of row tokens t e f q r = subst (λ (g : Entry). t ≡ token_in row (length tokens) g) r q

-- ---- the cells of the log stay

-- what holds of a table holds of it with the same cells
pub with-row : (P : Held → Type 0) (h : Held) (row : List ℕ) → row ≡ h.row → P h → P (record h { row = row })
with-row P h row e p = subst (λ (r : List ℕ). P (record h { row = r })) (sym e) p

pub tree-row : (h : Held) (tokens : List (Token Entry)) (counts : Counts) (row : List ℕ) → row ≡ h.row → IsTableTree h tokens counts → IsTableTree (record h { row = row }) tokens counts
tree-row h tokens counts row e k = with-row (λ (x : Held). IsTableTree x tokens counts) h row e k
