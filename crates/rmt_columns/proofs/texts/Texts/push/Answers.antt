use Rattle.std.proofs.Common.{rules, ◌≡◌, ◌++◌, ◌∷◌, ℕ, List, [], length, sym, ap, ◌∙◌, subst}
use Rattle.rmt_columns.specs.TextEnds.{texts_of, EndAt}
use Rattle.rmt_columns.proofs.TextLemmas.{text-put}
use Rattle.rmt_columns.proofs.texts.Texts.push.Goals as goal

pub invariant_of-self-2 : goal.invariant_of-self-2
invariant_of-self-2 c =
    let bytes : c.extend_from_slice.new.self.items ≡ c.self.inside.bytes.items ++ c.args.text.now = search rules in
    let n : c.len.result ≡ length c.extend_from_slice.new.self.items = search rules in
    let ends : c.push.new.self.items ≡ c.self.inside.ends.items ++ c.len.result ∷ [] = search rules in
    subst (λ (l : List ℕ). EndAt 0 l (length c.extend_from_slice.new.self.items)) (sym ends)
    (text-put c.self.inside.bytes.items c.args.text.now c.self.inside.ends.items _ _ c.self.invariant bytes n).0

pub returns-clause-ok : goal.returns-clause-ok
returns-clause-ok c =
    let bytes : c.extend_from_slice.new.self.items ≡ c.self.inside.bytes.items ++ c.args.text.now = search rules in
    let n : c.len.result ≡ length c.extend_from_slice.new.self.items = search rules in
    let ends : c.push.new.self.items ≡ c.self.inside.ends.items ++ c.len.result ∷ [] = search rules in
    ap (texts_of c.extend_from_slice.new.self.items 0) ends
    ∙ ((text-put c.self.inside.bytes.items c.args.text.now c.self.inside.ends.items _ _ c.self.invariant bytes n).1
    ∙ ap (λ (l : List (List ℕ)). l ++ c.args.text.now ∷ []) c.self.view_is)
