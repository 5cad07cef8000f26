use Rattle.std.proofs.Common.{◌≡◌, ◌≢◌, ℕ, ◌*◌, ◌/◌, ◌<◌, ◌≤◌, List, [], ◌∷◌, ◌++◌, append-nil, map, drop, length, get_or, slice_get}
use Rattle.std.proofs.Common.{Some, All, inl, inr, ap, refl, sym, ◌∙◌, subst, arith, rules}
use Rattle.std.specs.List.{concat, flat_map}
use Rattle.std.specs.Simd.{first_chunks}
use Rattle.std.proofs.lemmas.List.{length-map}
use Rattle.std.proofs.lemmas.Option.{slice_get-get_or, slice_get_within}
use Rattle.seccompiler.specs.declared.bpf.sock_filter.{sock_filter}
use Rattle.seccompiler.specs.Machine.{AreInRange, IsInRange}
use Rattle.seccomp_compare.specs.Machine.{IsFine, IsFirstUnfit, IsUnfitAt, none, not_fine, too_many, no_return}
use Rattle.seccomp_answers.proofs.program.Chunks.{chunks_joined}
use Rattle.seccomp_answers.specs.Programs.{HasBytes}
use Rattle.seccomp_answers.specs.ProgramFaults.{IsAmiss}
use Rattle.seccomp_answers.specs.ProgramParts.{CantStand}
use Rattle.seccomp_answers.proofs.program.program_of_bytes.Goals as goal
use Rattle.seccomp_answers.specs.Compiled.{instruction_bytes}

-- Where nothing is left behind them, the chunks of 8 bytes are all bytes.
whole_joined : (bytes rest : List ℕ) → rest ≡ drop (length bytes / 8 * 8) bytes → length rest ≡ 0
    → concat (first_chunks 8 (length bytes / 8) bytes) ≡ bytes
whole_joined bytes [] behind nothing =
    sym (append-nil (concat (first_chunks 8 (length bytes / 8) bytes)))
    ∙ ap (λ text. concat (first_chunks 8 (length bytes / 8) bytes) ++ text) behind
    ∙ chunks_joined 8 (length bytes / 8) bytes
whole_joined bytes (b ∷ rest) behind nothing = absurd (omega arith)

-- The instructions of those chunks are the program of the bytes.
in_range : (program : List sock_filter) → All IsInRange program → AreInRange program
in_range program all = record {
  each = λ place i there.
      let within = slice_get_within program place i there in
      let same : get_or program place i ≡ i = cc (slice_get-get_or program place i within, there) in
      subst IsInRange same (all place i within);
}

flat_is : (program : List sock_filter) → flat_map instruction_bytes program ≡ concat (map instruction_bytes program)
flat_is [] = refl
flat_is (i ∷ program) = ap (λ rest. instruction_bytes i ++ rest) (flat_is program)

has_bytes : (bytes rest : List ℕ) (pieces : List (List ℕ)) (program : List sock_filter)
    → pieces ≡ first_chunks 8 (length bytes / 8) bytes → rest ≡ drop (length bytes / 8 * 8) bytes → length rest ≡ 0
    → map instruction_bytes program ≡ pieces → All IsInRange program → HasBytes bytes program
has_bytes bytes rest pieces program front behind nothing are all = record {
  whole = flat_is program ∙ ap concat (are ∙ front) ∙ whole_joined bytes rest behind nothing;
  ranges = in_range program all;
}

-- What is amiss in a program of some instructions is so at one of them.
unfit_within : (program : List sock_filter) (place : ℕ) → 1 ≤ length program → IsUnfitAt program place → place < length program
unfit_within program place some (none empty first) = absurd (omega arith)
unfit_within program place some (not_fine i there broken) = slice_get_within program place i there
unfit_within program place some (too_many here behind) = behind
unfit_within program place some (no_return i there last other) = omega arith

-- An instruction at which something is amiss may not stand there.
cant_stand : (program : List sock_filter) (place : ℕ) → 1 ≤ length program → length program ≤ 4096 → IsUnfitAt program place
    → (i : sock_filter) → slice_get program place ≡ Some i → CantStand i place (length program)
cant_stand program place some few (none empty first) i there = absurd (omega arith)
cant_stand program place some few (not_fine j here broken) i there =
    let same : j ≡ i = cc (here, there) in
    inl (subst (λ k. IsFine k place (length program) → ⊥) same broken)
cant_stand program place some few (too_many here behind) i there = absurd (omega arith)
cant_stand program place some few (no_return j here last other) i there =
    let same : j ≡ i = cc (here, there) in
    inr (last, subst (λ (k : sock_filter). k.code ≢ 0x06) same other)

pub amiss-requires : goal.amiss-requires
amiss-requires c =
    let program = c.in_ok-program.program.items in
    let place = c.in-Some.place in
    let long = sym (length-map program instruction_bytes) ∙ ap length c.in_ok-program.ensures.bytes in
    let pieces : 1 ≤ length c.as_chunks.result.0.now = search rules in
    let some : 1 ≤ length program = omega (arith, long, pieces) in
    let few : length program ≤ 4096 = omega (arith, long, c.if-pieces-gt-BPF_MAX_LEN.false) in
    let unfit = (subst (λ p. IsFirstUnfit p place) c.deref.ensures.value c.in-Some.ensures.unfit).unfit in
    let within = unfit_within program place some unfit in
    let here = slice_get-get_or program place c.index.result.now within ∙ ap Some (sym c.index.ensures) in
    subst (CantStand c.index.result.now place) (sym (c.len.ensures ∙ c.in_ok-program.program.ok.0))
    (cant_stand program place some few unfit c.index.result.now here)

pub returns-in-None-clause-program : goal.returns-in-None-clause-program
returns-in-None-clause-program c =
    let nothing : length c.as_chunks.result.1.now ≡ 0 = search rules in
    has_bytes c.args.bytes.now c.as_chunks.result.1.now c.as_chunks.result.0.now c.in_ok-program.program.items c.as_chunks.ensures.front
    c.as_chunks.ensures.back nothing c.in_ok-program.ensures.bytes c.in_ok-program.ensures.ranges

pub returns-in-Some-clause-refused : goal.returns-in-Some-clause-refused
returns-in-Some-clause-refused c =
    let program = c.in_ok-program.program.items in
    let place = c.in-Some.place in
    let long = sym (length-map program instruction_bytes) ∙ ap length c.in_ok-program.ensures.bytes in
    let pieces : 1 ≤ length c.as_chunks.result.0.now = search rules in
    let some : 1 ≤ length program = omega (arith, long, pieces) in
    let few : length program ≤ 4096 = omega (arith, long, c.if-pieces-gt-BPF_MAX_LEN.false) in
    let nothing : length c.as_chunks.result.1.now ≡ 0 = search rules in
    let bytes = has_bytes c.args.bytes.now c.as_chunks.result.1.now c.as_chunks.result.0.now program c.as_chunks.ensures.front
    c.as_chunks.ensures.back nothing c.in_ok-program.ensures.bytes c.in_ok-program.ensures.ranges in
    let first = subst (λ p. IsFirstUnfit p place) c.deref.ensures.value c.in-Some.ensures.unfit in (
      program,
      bytes,
      few,
      record {
        first = first;
        instruction = c.index.result.now;
        there = slice_get-get_or program place c.index.result.now (unfit_within program place some first.unfit)
            ∙ ap Some (sym c.index.ensures);
        is_amiss = subst (λ n. IsAmiss c.index.result.now place n c.amiss.result) (c.len.ensures ∙ c.in_ok-program.program.ok.0)
            c.amiss.ensures;
      },
    )
