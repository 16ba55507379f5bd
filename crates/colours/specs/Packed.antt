-- A colour's coordinate, and a run: a vertex offset with a coordinate above it. Assumes nothing.
use Rattle.std.specs.Prelude.{ℕ, ◌+◌, ◌*◌, ◌/◌, ◌%◌, ◌^◌, Bool, cond, ◌&&◌, [], ltb, eqb}
use Rattle.dna.specs.Answer.{Answer, gives, refuses}

-- A coordinate is a worker in eight bits, and an index in the 32 bits above them.
abbrev pub coordinate_of : ℕ → ℕ → ℕ
coordinate_of worker index = index * 2 ^ 8 + worker

abbrev pub worker_in : ℕ → ℕ
worker_in coordinate = coordinate % 2 ^ 8

abbrev pub index_in : ℕ → ℕ
index_in coordinate = coordinate / 2 ^ 8

-- The highest bit of a word marks a coordinate that is still in process.
abbrev pub in_process : ℕ → Bool
in_process coordinate = eqb (coordinate / 2 ^ 63 % 2) 1

-- A run is a vertex offset in 24 bits, and a coordinate in the 40 bits above them.
abbrev pub run_of : ℕ → ℕ → ℕ
run_of offset coordinate = coordinate * 2 ^ 24 + offset

abbrev pub offset_in : ℕ → ℕ
offset_in run = run % 2 ^ 24

abbrev pub coordinate_in : ℕ → ℕ
coordinate_in run = run / 2 ^ 24

-- An answer where every part is in its range; else refusal 22.
abbrev pub in_range : {A : Type 0} → Bool → Answer A → Answer A
in_range fits answer = cond fits answer (refuses 22 [])

-- A coordinate packed from its parts.
abbrev pub discovered_call : ℕ → ℕ → Answer ℕ
discovered_call worker index =
    in_range (ltb worker (2 ^ 8) && ltb index (2 ^ 32)) (gives (coordinate_of worker index))

-- What is asked of a coordinate: its 40 bits, from which it is also made, and its parts, one by one and both.
abbrev pub u40_call : ℕ → Answer ℕ
u40_call coordinate = in_range (ltb coordinate (2 ^ 40)) (gives coordinate)

abbrev pub worker_call : ℕ → Answer ℕ
worker_call coordinate = in_range (ltb coordinate (2 ^ 40)) (gives (worker_in coordinate))

abbrev pub index_call : ℕ → Answer ℕ
index_call coordinate = in_range (ltb coordinate (2 ^ 40)) (gives (index_in coordinate))

abbrev pub parts_call : ℕ → Answer (ℕ × ℕ)
parts_call coordinate = in_range (ltb coordinate (2 ^ 40)) (gives (worker_in coordinate, index_in coordinate))

-- A run packed from an offset and a coordinate.
abbrev pub run_call : ℕ → ℕ → Answer ℕ
run_call offset coordinate =
    in_range (ltb offset (2 ^ 24) && ltb coordinate (2 ^ 40)) (gives (run_of offset coordinate))
