-- What the probe of a running job watches.
use Rattle.pl_epochs.specs.Words.{numbers, table_of}
use Rattle.pl_runner.specs.declared.probe.Aim.{Aim}
use Rattle.pl_runner.specs.declared.probe.SlotProbe.{SlotProbe}

abbrev pub aim_of : SlotProbe → Aim
aim_of p = record { table = table_of p.epochs.now; slot = p.slot; epoch = p.epoch; had_read = numbers p.before.value }
