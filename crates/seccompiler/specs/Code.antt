-- The instructions of classic BPF that a filter is made of, by name.
use Rattle.std.specs.Prelude.{ℕ, List, [], ◌∷◌}
use Rattle.seccompiler.specs.declared.bpf.sock_filter.{sock_filter}

-- Load the word at byte k of the record.
abbrev pub load : ℕ → sock_filter
load k = record { code = 0x20; jt = 0; jf = 0; k = k }

-- Keep the bits of the accumulator that are set in k.
abbrev pub mask : ℕ → sock_filter
mask k = record { code = 0x54; jt = 0; jf = 0; k = k }

-- Jump over k instructions.
abbrev pub jump : ℕ → sock_filter
jump k = record { code = 0x05; jt = 0; jf = 0; k = k }

-- Jump over jt instructions if the accumulator equals k, else over jf.
abbrev pub jump_equal : ℕ → ℕ → ℕ → sock_filter
jump_equal k jt jf = record { code = 0x15; jt = jt; jf = jf; k = k }

-- Jump over jt instructions if the accumulator is greater than k, else over jf.
abbrev pub jump_greater : ℕ → ℕ → ℕ → sock_filter
jump_greater k jt jf = record { code = 0x25; jt = jt; jf = jf; k = k }

-- Jump over jt instructions if the accumulator is at least k, else over jf.
abbrev pub jump_at_least : ℕ → ℕ → ℕ → sock_filter
jump_at_least k jt jf = record { code = 0x35; jt = jt; jf = jf; k = k }

-- End, and return the word k.
abbrev pub give : ℕ → sock_filter
give k = record { code = 0x06; jt = 0; jf = 0; k = k }

-- The guard in front of a program: it kills the process if the record's architecture word is another (seccomp(2)).
abbrev pub guard_code : ℕ → List sock_filter
guard_code arch_word = load 4 ∷ jump_equal arch_word 1 0 ∷ give 0x80000000 ∷ []
