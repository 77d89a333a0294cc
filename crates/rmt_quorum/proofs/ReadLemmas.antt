-- What the nodes of a quorum tell.
use Rattle.std.proofs.Common.{◌≡◌, ℕ, suc, ◌<◌, ◌^◌, List, ◌∷◌, ◌++◌, length, IfSome, refl, sym, ap, arith, ◌∙◌}
use Rattle.std.specs.Fmt.{decimal}
use Rattle.std.specs.Option.{option_map}
use Rattle.std.specs.declared.option.Option.{Option}
use Rattle.std.specs.declared.option.Option.TheVariants.{Some, None}
use Rattle.rmt_names.specs.Names.{Name, IsName}
use Rattle.rmt_names.specs.Texts.{text_of}
use Rattle.rmt_paths.specs.Paths.{Names}
use Rattle.rmt_tree.specs.Trees.{Node, TreeView, node_at, value_and_version}
use Rattle.rmt_znodes.specs.declared.znode.Znode.TheVariants.{Status, LastPart}
use Rattle.rmt_znodes.specs.Znodes.{znode_path}
use Rattle.rmt_znodes.specs.ZnodeStates.{ZnodeState, state_of}
use Rattle.rmt_model.specs.Quorum.{Pending, Quorum}
use Rattle.rmt_table_model.specs.Nodes.{plain, spaced, status_text, noted_count}
use Rattle.rmt_quorum.specs.QuorumNodes.{IsWritable, HasQuorum, spaces}
use Rattle.rmt_quorum.proofs.SpaceLemmas.{none-name, no-spaces, spaces-joined, spaces-spaced}

-- what is read of a node that holds this, where it is there
value-read : (o : Option Node) (v value : List ℕ) (version : ℕ) → option_map state_of o ≡ Some (plain v) → Some (value, version) ≡ option_map {U = List ℕ × ℕ} value_and_version o → value ≡ v
value-read None v value version e f = absurd (cc)
value-read (Some n) v value version e f =
    let s : state_of n ≡ plain v = cc in
    let pair : (value, version) ≡ (n.value, n.version) = cc in
    ap (λ (w : List ℕ × ℕ). w.0) pair ∙ ap (λ (x : ZnodeState). x.value) s

some-read : (o : Option Node) (value : List ℕ) (version : ℕ) → option_map state_of o ≡ None → Some (value, version) ≡ option_map {U = List ℕ × ℕ} value_and_version o → ⊥
some-read None value version e f = absurd (cc)
some-read (Some n) value version e f = absurd (cc)

none-read : (o : Option Node) (v : List ℕ) → option_map state_of o ≡ Some (plain v) → None ≡ option_map {U = List ℕ × ℕ} value_and_version o → ⊥
none-read None v e f = absurd (cc)
none-read (Some n) v e f = absurd (cc)

module _ (t : TreeView) (q : Quorum) (has : HasQuorum t q) where
  status-there : option_map state_of (node_at t (znode_path Status)) ≡ option_map (λ p. plain (status_text p)) q.pending
  status-there = has.nodes.nodes Status tt

  last-there : option_map state_of (node_at t (znode_path LastPart)) ≡ option_map (λ a. plain (text_of a)) q.last
  last-there = has.nodes.nodes LastPart tt

  -- the text of the pending part
  pub record IsStatus (value : List ℕ) : Type 0 where
    pub waiting : Pending
    pub is : q.pending ≡ Some waiting
    pub fits : IsWritable waiting
    pub text : value ≡ status_text waiting

  pub status-read : (path : Names) → path ≡ znode_path Status → (value : List ℕ) (version : ℕ) → Some (value, version) ≡ option_map {U = List ℕ × ℕ} value_and_version (node_at t path) → IsStatus value
  status-read path p value version e = go q.pending refl status-there has.pending
    where
      at : Some (value, version) ≡ option_map {U = List ℕ × ℕ} value_and_version (node_at t (znode_path Status))
      at = e ∙ ap (λ (w : Names). option_map {U = List ℕ × ℕ} value_and_version (node_at t w)) p

      go : (o : Option Pending) → q.pending ≡ o → option_map state_of (node_at t (znode_path Status)) ≡ option_map (λ p. plain (status_text p)) o → IfSome o IsWritable → IsStatus value
      go None i s f = absurd (some-read (node_at t (znode_path Status)) value version s at)
      go (Some w) i s f = record { waiting = w; is = i; fits = f; text = value-read (node_at t (znode_path Status)) (status_text w) value version s at }

  pub status-none : (path : Names) → path ≡ znode_path Status → None ≡ option_map {U = List ℕ × ℕ} value_and_version (node_at t path) → q.pending ≡ None
  status-none path p e = go q.pending refl status-there
    where
      at : None ≡ option_map {U = List ℕ × ℕ} value_and_version (node_at t (znode_path Status))
      at = e ∙ ap (λ (w : Names). option_map {U = List ℕ × ℕ} value_and_version (node_at t w)) p

      go : (o : Option Pending) → q.pending ≡ o → option_map state_of (node_at t (znode_path Status)) ≡ option_map (λ p. plain (status_text p)) o → q.pending ≡ None
      go None i s = i
      go (Some w) i s = absurd (none-read (node_at t (znode_path Status)) (status_text w) s at)

  -- ---- the pending part

  pub pending-is : (path : Names) → path ≡ znode_path Status → (value : List ℕ) (version : ℕ) → Some (value, version) ≡ option_map {U = List ℕ × ℕ} value_and_version (node_at t path)
      → (r : Option Name) → ((a : Name) (more : List ℕ) → IsName a → value ≡ text_of a ++ 32 ∷ more → r ≡ Some a) → r ≡ option_map (λ p. p.part) q.pending
  pending-is path p value version e r f =
      let s = status-read path p value version e in
      f s.waiting.part (decimal s.waiting.need ++ spaced s.waiting.noted) s.fits.part s.text ∙ ap (option_map (λ (p : Pending). p.part)) (sym s.is)

  pub pending-none : (path : Names) → path ≡ znode_path Status → None ≡ option_map {U = List ℕ × ℕ} value_and_version (node_at t path) → None ≡ option_map (λ p. p.part) q.pending
  pending-none path p e = ap (option_map (λ (p : Pending). p.part)) (sym (status-none path p e))

  -- ---- how many have noted it

  pub noted-is : (path : Names) → path ≡ znode_path Status → (value : List ℕ) (version : ℕ) → Some (value, version) ≡ option_map {U = List ℕ × ℕ} value_and_version (node_at t path)
      → (spaces value ≡ suc (noted_count q.pending)) × (noted_count q.pending < 2 ^ 32)
  noted-is path p value version e =
      let s = status-read path p value version e in
      let w = s.waiting in
      let c : noted_count q.pending ≡ length w.noted = ap noted_count s.is in
      let few : length w.noted < 2 ^ 32 = s.fits.few in
      let a = ap spaces s.text in
      let b = spaces-joined (text_of w.part) (spaced (w.need ∷ w.noted)) in
      let d = no-spaces (text_of w.part) (none-name w.part s.fits.part) in
      let g : spaces (spaced (w.need ∷ w.noted)) ≡ suc (length w.noted) = spaces-spaced (w.need ∷ w.noted) (s.fits.need, s.fits.noted) in
      (omega (arith, a, b, c, d, g), omega (arith, c, few))

  pub noted-none : (path : Names) → path ≡ znode_path Status → None ≡ option_map {U = List ℕ × ℕ} value_and_version (node_at t path) → noted_count q.pending ≡ 0
  noted-none path p e = ap noted_count (status-none path p e)

  -- ---- the last part

  pub last-is : (path : Names) → path ≡ znode_path LastPart → (value : List ℕ) (version : ℕ) → Some (value, version) ≡ option_map {U = List ℕ × ℕ} value_and_version (node_at t path)
      → (r : Option Name) → ((a : Name) → IsName a → text_of a ≡ value → r ≡ Some a) → r ≡ q.last
  last-is path p value version e r f = go q.last refl last-there has.last
    where
      at : Some (value, version) ≡ option_map {U = List ℕ × ℕ} value_and_version (node_at t (znode_path LastPart))
      at = e ∙ ap (λ (w : Names). option_map {U = List ℕ × ℕ} value_and_version (node_at t w)) p

      go : (o : Option Name) → q.last ≡ o → option_map state_of (node_at t (znode_path LastPart)) ≡ option_map (λ a. plain (text_of a)) o → IfSome o IsName → r ≡ q.last
      go None i s n = absurd (some-read (node_at t (znode_path LastPart)) value version s at)
      go (Some a) i s n = f a n (sym (value-read (node_at t (znode_path LastPart)) (text_of a) value version s at)) ∙ sym i

  pub last-none : (path : Names) → path ≡ znode_path LastPart → None ≡ option_map {U = List ℕ × ℕ} value_and_version (node_at t path) → None ≡ q.last
  last-none path p e = go q.last refl last-there
    where
      at : None ≡ option_map {U = List ℕ × ℕ} value_and_version (node_at t (znode_path LastPart))
      at = e ∙ ap (λ (w : Names). option_map {U = List ℕ × ℕ} value_and_version (node_at t w)) p

      go : (o : Option Name) → q.last ≡ o → option_map state_of (node_at t (znode_path LastPart)) ≡ option_map (λ a. plain (text_of a)) o → None ≡ q.last
      go None i s = sym i
      go (Some a) i s = absurd (none-read (node_at t (znode_path LastPart)) (text_of a) s at)
