-- The answers, all of them: the one term that fills the record.
-- Assumes nothing.
use Rattle.arbiter.specs.Answers.{Answers}
use Rattle.arbiter.proofs.Runs.{runs_on}
use Rattle.arbiter.proofs.KindKept.{keeps_kind, runs_of_kind}
use Rattle.arbiter.proofs.Connected.{one_connected, apart_unowned}
use Rattle.arbiter.proofs.Seen.{answers_show, answers_show_one, registers_show, registers_show_one}
use Rattle.arbiter.proofs.Resets.{reset_ends}
use Rattle.arbiter.proofs.Reserve.{reserve_lasts, reserve_ends, reserve_exact}
use Rattle.arbiter.proofs.Waiting.{partner_next}
use Rattle.arbiter.proofs.InTime.{partner_in_time, partner_in_time_throughout}
use Rattle.arbiter.proofs.Timer.{held_until_let_go, idle_timer_exact}
use Rattle.arbiter.proofs.IdleCount.{idle_timer_ends}
use Rattle.arbiter.proofs.Tenure.{granted_at_rest}
use Rattle.arbiter.proofs.Ended.{ends_disconnected}
use Rattle.arbiter.proofs.Settled.{refused_unchanged}
use Rattle.arbiter.proofs.Again.{all_settled}
use Rattle.arbiter.proofs.Bitwise.{asserted_bit_by_bit, cleared_bit_by_bit}
use Rattle.arbiter.proofs.Grounds.{ground_with_claim, ground_of_choice, ground_stays}
use Rattle.arbiter.proofs.Contests.{contest_is_pair}
use Rattle.arbiter.proofs.Hung.{hung_exact, clock_not_hung}
use Rattle.arbiter.proofs.HungRows.{hung_rows_hold, slow_clock_never_hung}
use Rattle.arbiter.proofs.OldTraces.{converted_accepted, old_refused}
use Rattle.arbiter.proofs.Witnesses.{witnesses_meet}
use Rattle.arbiter.proofs.Marks.{marks_hold, readings_hold}

pub answers : Answers
answers =
    record {
      runs_on = runs_on;
      keeps_kind = keeps_kind;
      runs_of_kind = runs_of_kind;
      one_connected = one_connected;
      apart_unowned = apart_unowned;
      answers_show = answers_show;
      answers_show_one = answers_show_one;
      registers_show = registers_show;
      registers_show_one = registers_show_one;
      reset_ends = reset_ends;
      reserve_lasts = reserve_lasts;
      reserve_ends = reserve_ends;
      reserve_exact = reserve_exact;
      partner_next = partner_next;
      partner_in_time = partner_in_time;
      partner_in_time_throughout = partner_in_time_throughout;
      held_until_let_go = held_until_let_go;
      idle_timer_exact = idle_timer_exact;
      idle_timer_ends = idle_timer_ends;
      granted_at_rest = granted_at_rest;
      ends_disconnected = ends_disconnected;
      refused_unchanged = refused_unchanged;
      all_settled = all_settled;
      ground_with_claim = ground_with_claim;
      ground_of_choice = ground_of_choice;
      ground_stays = ground_stays;
      contest_is_pair = contest_is_pair;
      hung_exact = hung_exact;
      clock_not_hung = clock_not_hung;
      hung_rows_hold = hung_rows_hold;
      slow_clock_never_hung = slow_clock_never_hung;
      asserted_bit_by_bit = asserted_bit_by_bit;
      cleared_bit_by_bit = cleared_bit_by_bit;
      converted_accepted = converted_accepted;
      old_refused = old_refused;
      witnesses_meet = witnesses_meet;
      marks_hold = marks_hold;
      readings_hold = readings_hold;
    }
