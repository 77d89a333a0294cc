use Rattle.std.proofs.Common.{◌≡◌, arith}
use Rattle.rmt_paths.specs.Paths.{numbered}
use Rattle.rmt_paths.proofs.NameLemmas.{IsPath-numbered}
use Rattle.rmt_paths.proofs.path.Path.numbered.Goals as goal

pub path_at-requires : goal.path_at-requires
path_at-requires c =
    let is : c.in_ok-place.place ≡ numbered c.self.inside.place c.args.number = grind (arith, c.in_ok-place.ensures, c.ten_digits-digits.ensures) in
    rw is (IsPath-numbered c.self.inside.place c.args.number c.self.invariant.path)
