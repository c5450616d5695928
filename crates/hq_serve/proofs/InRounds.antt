-- Rounds of a server, one after another.
use Rattle.std.proofs.Common.{◌≡◌, ◌+◌, ◌-◌, ◌≤◌, ℕ, List, [], ◌∷◌, ◌++◌, length, map, refl, sym}
use Rattle.std.proofs.Common.{ap, ◌∙◌, subst, arith, length-append}
use Rattle.std.proofs.lemmas.List.{length-map, map-append}
use Rattle.std.specs.List.{flat_map}
use Rattle.hq_values.specs.Turns.{InTurn}
use Rattle.hq_values.proofs.Turns.{one_turn, turns_on}
use Rattle.hq_log.specs.Entries.{Telling}
use Rattle.hq_log.specs.Lines.{LogEntry}
use Rattle.hq_rules.specs.Desks.{DeskSight}
use Rattle.hq_requests.specs.declared.directory.Directory.{Directory}
use Rattle.hq_wire.specs.Exchanges.{with_refusals}
use Rattle.hq_together.specs.Together.{ServedInRound}
use Rattle.hq_together.proofs.InRounds.{alone_as_one, replied_as_one}
use Rattle.hq_serve.specs.Coming.{ClientEvent, Serving, EndsWith, HaveOutcomes, RoundDone}
use Rattle.hq_serve.specs.Coming.{client_of, events_of, round_asks, round_events, round_replies}
use Rattle.hq_serve.specs.Coming.{round_taken, sent_each}
use Rattle.hq_serve.specs.Logged.{round_told, timed_of, told_each, told_at_once}
use Rattle.hq_serve.specs.Rounds.{DoesRounds, IsOver, ServesRounds}
use Rattle.hq_serve.specs.Taking.{IsEven, Takes, RepliesToRound, timed}
use Rattle.hq_serve.specs.declared.coming.ServiceEnd.{ServiceEnd}
use Rattle.hq_serve.specs.declared.coming.ServiceEnd.TheVariants.{Done, Network, Clock}
use Rattle.hq_serve.specs.declared.rounds.Round.{Round}
use Rattle.hq_serve.proofs.Taking.{are_even, did_more, flat_one, idle, taken_on}

-- that no more come is why no more are served
pub is_over : (left : ℕ) (why : ServiceEnd) (came done : ℕ) → EndsWith left why →
    IsOver why came left done
is_over left Done came done h = h
is_over left Network came done h = h
is_over left Clock came done h = absurd h

module _ {K L D : Type 0} (refused : Type 0) (sight : DeskSight D) (d : Directory)
    (does : Serving K) (tells : Telling L) where
  -- each exchange of a round has its client
  pub even : (start now : K) (log_start log_now : L) (round : Round) →
      Takes refused does tells start now log_start log_now round → IsEven round
  even start now log_start log_now round t = ap length t.clients ∙ are_even t.taken
      ∙ sym (ap length t.requests) ∙ length-map round.exchanges.items timed

  -- so far so many were taken, in these rounds
  pub record RoundsDone (done : ℕ) (start now : K) (log_start log_now : L) (old new : D) : Type 0
    where
      pub rounds : List RoundDone
      pub are_taken : HaveOutcomes refused (flat_map round_taken rounds)
      pub clients : does start (flat_map round_events rounds) now
      pub told : tells log_start (flat_map (round_told d) rounds) log_now
      pub counted : length (flat_map round_taken rounds) ≡ done
      pub served : InTurn (ServedInRound (with_refusals refused sight) d) old
          (map (round_asks d) rounds) (map round_replies rounds) new

  pub none_done : (start : K) (log : L) (desk : D) → does start [] start → tells log [] log →
      RoundsDone 0 start start log log desk desk
  none_done start log desk none untold = record {
    rounds = [];
    are_taken = tt;
    clients = none;
    told = untold;
    counted = refl;
    served = refl;
  }

  module _ (on : (old mid new : K) (events more : List ClientEvent) → does old events mid →
      does mid more new → does old (events ++ more) new)
      (told_on : (old mid new : L) (told more : List LogEntry) → tells old told mid →
      tells mid more new → tells old (told ++ more) new) where
    -- nobody came meanwhile
    pub waited : (done : ℕ) (start mid now : K) (log_start log_now : L) (old new : D) →
        RoundsDone done start mid log_start log_now old new → does mid [] now →
        RoundsDone done start now log_start log_now old new
    waited done start mid now log_start log_now old new so none = record {
      rounds = so.rounds;
      are_taken = so.are_taken;
      clients = idle does on start mid now (flat_map round_events so.rounds) so.clients none;
      told = so.told;
      counted = so.counted;
      served = so.served;
    }

    -- the clients of one round
    of_round : (before after end : K) (log_before log_after log_end : L) (round : Round)
        (old new : D) (t : Takes refused does tells before after log_before log_after round) →
        (p : RepliesToRound (with_refusals refused sight) d does tells round after end log_after
        log_end old new) →
        does before
        (flat_map events_of t.taken ++ sent_each (flat_map client_of t.taken) p.replies) end
    of_round before after end log_before log_after log_end round old new t p =
        on before after end (flat_map events_of t.taken)
        (sent_each (flat_map client_of t.taken) p.replies) t.did
        (subst (λ cs. does after (sent_each cs p.replies) end) t.clients p.sent)

    -- and what is told of them
    told_in_round : (before after end : K) (log_before log_after log_end : L) (round : Round)
        (old new : D) (t : Takes refused does tells before after log_before log_after round) →
        (p : RepliesToRound (with_refusals refused sight) d does tells round after end log_after
        log_end old new) →
        tells log_before
        (flat_map told_at_once t.taken ++ told_each d (flat_map timed_of t.taken) p.replies) log_end
    told_in_round before after end log_before log_after log_end round old new t p =
        told_on log_before log_after log_end (flat_map told_at_once t.taken)
        (told_each d (flat_map timed_of t.taken) p.replies) t.told
        (subst (λ qs. tells log_after (told_each d qs p.replies) log_end) t.requests p.told)

    -- one round more
    pub one_more : (done more : ℕ) (start before after end : K)
        (log_start log_before log_after log_end : L) (round : Round) (old mid new : D) →
        more ≡ done + round.taken →
        RoundsDone done start before log_start log_before old mid →
        Takes refused does tells before after log_before log_after round →
        RepliesToRound (with_refusals refused sight) d does tells round after end log_after
        log_end mid new →
        RoundsDone more start end log_start log_end old new
    one_more done more start before after end log_start log_before log_after log_end round old mid
        new is so t p =
        let one : RoundDone = record { taken = t.taken; replies = p.replies } in
        let taken_so = flat_one round_taken so.rounds one in
        let events_so = flat_one round_events so.rounds one in
        let told_too = flat_one (round_told d) so.rounds one in
        let asks = round_asks d one in
        let served : ServedInRound (with_refusals refused sight) d mid asks p.replies new =
        subst (λ these. ServedInRound (with_refusals refused sight) d mid these p.replies new)
        (t.exchanges d) p.served in
        let turns = turns_on (ServedInRound (with_refusals refused sight) d) old mid new
        (map (round_asks d) so.rounds) (asks ∷ []) (map round_replies so.rounds)
        (p.replies ∷ []) so.served
        (one_turn (ServedInRound (with_refusals refused sight) d) mid new asks p.replies served) in
        record {
          rounds = so.rounds ++ one ∷ [];
          are_taken = subst (HaveOutcomes refused) (sym taken_so)
              (taken_on refused (flat_map round_taken so.rounds) t.taken so.are_taken t.are_taken);
          clients = did_more does on start before end (flat_map round_events so.rounds)
              (round_events one) (flat_map round_events (so.rounds ++ one ∷ [])) events_so
              so.clients
              (of_round before after end log_before log_after log_end round mid new t p);
          told = did_more tells told_on log_start log_before log_end
              (flat_map (round_told d) so.rounds) (round_told d one)
              (flat_map (round_told d) (so.rounds ++ one ∷ [])) told_too so.told
              (told_in_round before after end log_before log_after log_end round mid new t p);
          counted = ap length taken_so ∙ length-append (flat_map round_taken so.rounds) t.taken
              ∙ ap (λ n. n + length t.taken) so.counted ∙ ap (λ n. done + n) (sym t.counted)
              ∙ sym is;
          served = subst (λ rs. InTurn (ServedInRound (with_refusals refused sight) d) old
              (map (round_asks d) (so.rounds ++ one ∷ [])) rs new)
              (sym (map-append round_replies so.rounds (one ∷ [])))
              (subst (λ asked. InTurn (ServedInRound (with_refusals refused sight) d) old asked
              (map round_replies so.rounds ++ p.replies ∷ []) new)
              (sym (map-append (round_asks d) so.rounds (one ∷ []))) turns);
        }

  -- what the desk did in all
  abbrev did : (rounds : List RoundDone) (old new : D) →
      InTurn (ServedInRound (with_refusals refused sight) d) old (map (round_asks d) rounds)
      (map round_replies rounds) new → DoesRounds (with_refusals refused sight) d rounds old new
  did rounds old new served = record {
    served = served;
    as_one = replied_as_one (with_refusals refused sight) d old new (map (round_asks d) rounds)
        (map round_replies rounds) served;
    alone = alone_as_one (with_refusals refused sight) d old new (map (round_asks d) rounds)
        (map round_replies rounds) served;
  }

  -- why no more are served
  pub ends : (coming left done : ℕ) (why : ServiceEnd) (start now : K) (log_start log_now : L)
      (old new : D) → done + left ≤ coming →
      RoundsDone done start now log_start log_now old new →
      ((came : ℕ) → came + left ≡ coming → IsOver why came left done) →
      ServesRounds refused sight d does tells coming left why start now log_start log_now old new
  ends coming left done why start now log_start log_now old new few so over = record {
    rounds = so.rounds;
    are_taken = so.are_taken;
    clients = so.clients;
    told = so.told;
    desk = did so.rounds old new so.served;
    came = coming - left;
    counted = omega (arith, few);
    one_each = subst (λ n. n ≤ coming - left) (sym so.counted) (omega (arith, few));
    over = subst (λ n. IsOver why (coming - left) left n) (sym so.counted)
        (over (coming - left) (omega (arith, few)));
  }
