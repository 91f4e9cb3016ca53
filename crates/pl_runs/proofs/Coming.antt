-- What a runner leaves that has run to its end.
use Rattle.std.proofs.Common.{◌≡◌, ℕ, ◌==◌, filter, ap, sym, subst, ◌∙◌, arith, None, Result, Ok}
use Rattle.std.specs.Prelude.{OnOk}
use Rattle.std.specs.Option.{option_map}
use Rattle.pl_units.specs.declared.NoMemory.{NoMemory}
use Rattle.pl_tech.specs.Technology.{Meaning}
use Rattle.pl_ports.specs.declared.gate.Actor.{Actor}
use Rattle.pl_turn.specs.declared.turned.Turned.{Ghosts}
use Rattle.pl_turn.specs.declared.lock.TurnLock.{TurnLock}
use Rattle.pl_turn.specs.declared.lock.Pass.{Pass}
use Rattle.pl_turn.specs.Passes.{IsOf, known, number, own, seen}
use Rattle.pl_epochs.specs.declared.seats.TableName.{TableName}
use Rattle.pl_machine.specs.declared.entry.Entry.{Entry}
use Rattle.pl_machine.specs.Tickets.{number_of}
use Rattle.pl_plant.specs.declared.plant.Plant.{Plant}
use Rattle.pl_session.specs.Complete.{runs_of}
use Rattle.pl_order.specs.Order.{HasSaidBye, IsInOrder, number_in}
use Rattle.pl_runner.specs.declared.runner.Runner.{Runner}
use Rattle.pl_runner.specs.Running.{IsAt, IsReady, commands_of, jobs_in, known_by, own_of, seen_by, work_of}
use Rattle.pl_runs.specs.Went.{HasComeBack, HasGone}

module _ {T P E R O J B H : Type 0} {g : Ghosts (Plant T P E R O J B) (Entry T P E R O J B) H} (m : Meaning P E R O) (job_value : J → O) (runs : B → ℕ) (lock : TurnLock (Plant T P E R O J B) (Entry T P E R O J B) H) (table : TableName) where
  pub come_back : (old new : Runner T P E R O J B (Entry T P E R O J B) H g) (went : Result (Unit {0}) NoMemory) (actor : Actor) (p : Pass (Plant T P E R O J B) (Entry T P E R O J B) H g) (n : ℕ)
      → old.actor ≡ actor → HasGone m job_value runs lock table old went new → went ≡ Ok tt → known p ≡ known_by new → (IsAt lock table new → IsOf lock p) → n ≡ runs new.bench
      → own p ≡ filter (λ e. number_in e == number p) (seen p) → HasComeBack m lock old actor p n
  come_back old new went actor p n by gone ok same of count entries =
      let ready : IsReady m job_value runs lock table new = subst (λ w. OnOk w (IsReady m job_value runs lock table new)) ok gone.ready in
      let none : new.started ≡ None = subst (λ w. OnOk w (new.started ≡ None)) ok gone.idle in
      let said : HasSaidBye new.actor (seen_by new) = subst (λ w. OnOk w (HasSaidBye new.actor (seen_by new))) ok gone.said in
      let is : new.actor ≡ actor = gone.keeps.actor ∙ by in
      let seen_is : seen_by new ≡ seen p = sym (ap (λ v. v.seen) same) in
      let own_is : own_of new ≡ own p = sym (ap (λ v. v.own) same) in
      let number_is : number p ≡ number_of actor = ap (λ v. v.number) same ∙ (ready.number ∙ ap number_of is) in
      let idle : work_of job_value new ≡ None = ap (λ s. option_map (λ s. record { slot = s.slot; epoch = s.epoch; value = job_value s.job }) s) none in
      let jobs : jobs_in new.started ≡ 0 = ap jobs_in none in
      let counted = ready.counted in
      let counts : n ≡ runs_of (own_of new) = omega (arith, count, jobs, counted) in (
        sym by,
        record {
          lock_is = of gone.at;
          number_is = number_is;
          joined_are = ap (λ v. v.joined) same ∙ ready.joined;
          order = subst (λ a. IsInOrder m (commands_of old) a (seen p) None) is
              (subst (λ h. IsInOrder m (commands_of old) new.actor h None) seen_is
              (subst (λ w. IsInOrder m (commands_of old) new.actor (seen_by new) w) idle
              (subst (λ cs. IsInOrder m cs new.actor (seen_by new) (work_of job_value new)) gone.keeps.commands ready.order)));
          own_are = entries ∙ ap (λ k. filter (λ e. number_in e == k) (seen p)) number_is;
          runs_are = counts ∙ ap runs_of own_is;
          bye = subst (λ a. HasSaidBye a (seen p)) is (subst (λ h. HasSaidBye new.actor h) seen_is said);
        },
        ap (λ v. v.splits) same ∙ gone.keeps.splits,
      )
