-- `cover_lines::count_members` meets its contract.
use mathlib.Core.Path.{◌≡◌, ◌∙◌}
use lib.Dec.{leb}
use Rattle.std.specs.List.{count_by}
use Rattle.std.proofs.Common.{rules}
use Rattle.cover_lines.proofs.Lines.{count_places}
use Rattle.cover_lines.proofs.count_members.Goals as goal

pub returns : goal.returns
returns c =
    let e : c.count.result ≡ count_by (leb c.args.least) c.args.levels.now = search rules in
    e ∙ count_places (leb c.args.least) c.args.levels.now
