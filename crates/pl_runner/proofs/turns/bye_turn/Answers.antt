use Rattle.std.proofs.Common.{ap, map, sym, ◌∙◌}
use Rattle.std.specs.Arc.{arc_value}
use Rattle.std.proofs.lemmas.List.{length-map}
use Rattle.pl_ports.specs.declared.gate.Actor.TheVariants.{Session}
use Rattle.pl_turn.specs.Passes.{seen}
use Rattle.pl_runner.proofs.Went.{finds, seen_grown, idle, may_leave, none_next, left}
use Rattle.pl_runner.proofs.turns.bye_turn.Goals as goal

pub say_bye-requires : goal.say_bye-requires
say_bye-requires g c =
    let t = c.take-turn.ensures in
    record {
      may = λ stands. may_leave g.T.Technology.meaning (map arc_value c.args.commands.now) c.args.session _
          (finds (Session c.args.session) (seen c.args.pass) _ _ _ _ c.requires.number c.args.pass.entries.0 (ap (λ p. p.journal) (c.value.ensures.shows ∙ t.value)) t.fits.0 t.fits.1.0)
          c.requires.order c.requires.stays stands.legal stands.replayed;
    }

pub returns-in-Ended-clause-seen : goal.returns-in-Ended-clause-seen
returns-in-Ended-clause-seen g c =
    let t = c.take-turn.ensures in
    seen_grown (Session c.args.session)
    (finds (Session c.args.session) (seen c.args.pass) _ _ _ _ c.requires.number c.args.pass.entries.0 (ap (λ p. p.journal) (c.value.ensures.shows ∙ t.value)) t.fits.0 t.fits.1.0)
    _ _ _ c.in-Ended.ensures.journal c.end_with.ensures.seen

pub returns-in-Ended-clause-order : goal.returns-in-Ended-clause-order
returns-in-Ended-clause-order g c =
    let t = c.take-turn.ensures in
    let e = c.in-Ended.ensures in
    left g.T.Technology.meaning (map arc_value c.args.commands.now) g.met.T.Technology.laws c.args.session _ _
    (finds (Session c.args.session) (seen c.args.pass) _ _ _ _ c.requires.number c.args.pass.entries.0 (ap (λ p. p.journal) (c.value.ensures.shows ∙ t.value)) t.fits.0 t.fits.1.0)
    c.requires.order (none_next g.T.Technology.meaning (map arc_value c.args.commands.now) (Session c.args.session)
    (finds (Session c.args.session) (seen c.args.pass) _ _ _ _ c.requires.number c.args.pass.entries.0 (ap (λ p. p.journal) (c.value.ensures.shows ∙ t.value)) t.fits.0 t.fits.1.0)
    (c.requires.made ∙ sym (length-map c.args.commands.now arc_value))) e.stood.legal e.stands.legal e.journal c.end_with.ensures.seen

pub returns-in-NoMemory-clause-order : goal.returns-in-NoMemory-clause-order
returns-in-NoMemory-clause-order g c =
    let t = c.take-turn.ensures in
    let e = c.in-NoMemory.ensures in
    idle g.T.Technology.meaning (map arc_value c.args.commands.now) (Session c.args.session) _ _
    (finds (Session c.args.session) (seen c.args.pass) _ _ _ _ c.requires.number c.args.pass.entries.0 (ap (λ p. p.journal) (c.value.ensures.shows ∙ t.value)) t.fits.0 t.fits.1.0)
    c.requires.order e.stood.legal e.journal c.end-pass.ensures.seen
