use Rattle.std.proofs.Common.{◌≡◌, ◌+◌, ◌-◌, ◌≤◌, ℕ, length, take, drop, ◌++◌, ◌∙◌, sym, refl, arith, ap, length-drop}
use Rattle.std.proofs.lemmas.List.{take_rest}
use Rattle.pl_ports.proofs.Known.{copied}
use Rattle.pl_ports.proofs.memory.MemorySourceSource.read.Goals as goal

pub returns-clause-bytes : goal.returns-clause-bytes
returns-clause-bytes c =
    let got = rw (take_rest, c.bytes.ensures) at c.copy_from_slice.ensures.after in
    let first = rw (take_rest, c.bytes.ensures) at c.min.ensures in
    let room : c.min-count.result ≤ length (drop c.args.self.now.at c.args.self.now.bytes) = omega (arith, first, c.min-count.ensures) in
    copied c.args.self.now.bytes _ _ (drop c.min-count.result c.args.buffer.now) c.args.self.now.at c.min-count.result refl room got
