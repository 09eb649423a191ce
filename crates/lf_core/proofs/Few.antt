-- Counts below the limits of a history are below the numbers that the code compares them with.
use Rattle.std.proofs.Common.{ℕ, ◌<◌, ◌≤◌}
use Rattle.def_histories.specs.Legal.{most_commits, most_frames, most_registrations, most_text_bytes}

pub few_registrations : (n : ℕ) → n < most_registrations → n < 65536
unfolding most_registrations
few_registrations n low = low

pub few_commits : (n : ℕ) → n < most_commits → n < 65536
unfolding most_commits
few_commits n low = low

pub few_bytes : (n : ℕ) → n ≤ most_text_bytes → n ≤ 268435456
unfolding most_text_bytes
few_bytes n low = low

pub seats_are : (seats : ℕ) → 16 ≤ seats → most_frames ≤ seats
unfolding most_frames
seats_are seats low = low
