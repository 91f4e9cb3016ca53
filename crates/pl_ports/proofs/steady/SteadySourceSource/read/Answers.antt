use Rattle.std.proofs.Common.{◌≡◌, ◌+◌, ◌-◌, ◌≤◌, ℕ, length, take, drop, ◌++◌, ◌∙◌, sym, arith, ap, length-drop}
use Rattle.std.proofs.lemmas.List.{take_rest}
use Rattle.pl_ports.proofs.Known.{copied}
use Rattle.pl_ports.proofs.steady.SteadySourceSource.read.Goals as goal

pub returns-clause-bytes : goal.returns-clause-bytes
returns-clause-bytes c =
    let got = rw (take_rest, c.bytes.ensures) at c.copy_from_slice.ensures.after in
    let same = rw (take_rest, c.bytes.ensures) at c.min-count.ensures in
    let room : c.min-count.result ≤ length (drop c.self.inside.at c.self.inside.bytes) = omega (arith, same) in
    copied c.self.inside.bytes c.args.self.now _ (drop c.min-count.result c.args.buffer.now) c.self.inside.at c.min-count.result c.self.view_is room got
