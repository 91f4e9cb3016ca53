-- What callers see of the probe that gives written answers.
use Rattle.std.specs.Prelude.{ℕ, Bool, List}
use Rattle.pl_ports.specs.declared.probe.ScriptedProbe.{ScriptedProbe}

abbrev pub probe_answers : ScriptedProbe → List Bool
probe_answers p = p.answers.items

abbrev pub probe_polls : ScriptedProbe → ℕ
probe_polls p = p.polls

abbrev pub probe_raised : ScriptedProbe → Bool
probe_raised p = p.raised
