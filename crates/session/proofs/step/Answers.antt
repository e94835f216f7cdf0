-- `session::step` meets its contract: each arm is the case of `step` for its call, and leaves the bytes but for write's.
use Prim.Native.Nat.{ℕ}
use mathlib.Core.Path.{◌≡◌, refl}
use mathlib.Core.Bool.{false}
use mathlib.Core.List.{List}
use mir.Syntax.{w64}
use mir.ValLaws.{to_z-of_z}
use Rattle.model.specs.declared.Call.{Call}
use Rattle.model.specs.declared.Call.TheVariants as Ask
use Rattle.model.specs.Words.{State, state_of, with_text}
use Rattle.model.specs.Headers.{tuple}
use Rattle.model.specs.Answers.{Outcome}
use Rattle.model.specs.Sessions.{step}
use Rattle.theory.proofs.Unseen.{sees_text, lending, lent_too}
use borrow.Author.Rules.{rules}
use Rattle.session.proofs.step.Goals as goal

-- a call that is not lent the bytes: they stay, beside what it promises
beside : (bytes : List ℕ) (s : State) {o : Outcome State} (k : Call) → sees_text k ≡ false → o ≡ step tuple k s
    → lending bytes o ≡ step tuple k (with_text bytes s)
beside bytes s k n e = lent_too tuple bytes s k n e

pub returns-in-Collect : goal.returns-in-Collect
unfolding step
returns-in-Collect c =
    rw c.in-Collect.is (beside c.args.text.now (state_of c.args.heap.now c.args.roots.now c.args.«record») Ask.Collect refl c.collect.ensures)

pub returns-in-Check : goal.returns-in-Check
unfolding step
returns-in-Check c =
    rw (c.in-Check.is, c.keep.ensures) (beside c.args.text.now (state_of c.args.heap.now c.args.roots.now c.args.«record») Ask.Check refl c.check.ensures)

pub returns-in-Allocate : goal.returns-in-Allocate
unfolding step
returns-in-Allocate c =
    rw c.in-Allocate.is (beside c.args.text.now (state_of c.args.heap.now c.args.roots.now c.args.«record») (Ask.Allocate _ _ _) refl c.allocate.ensures)

pub returns-in-SetInteger : goal.returns-in-SetInteger
unfolding step
returns-in-SetInteger c =
    let v = to_z-of_z w64 c.in-SetInteger.value (search rules) in
    rw (c.in-SetInteger.is, c.keep-in-SetInteger.ensures) (beside c.args.text.now (state_of c.args.heap.now c.args.roots.now c.args.«record») (Ask.SetInteger _ _) refl (rw v at c.set_integer.ensures))

pub returns-in-SetNull : goal.returns-in-SetNull
unfolding step
returns-in-SetNull c =
    rw (c.in-SetNull.is, c.keep-in-SetNull.ensures) (beside c.args.text.now (state_of c.args.heap.now c.args.roots.now c.args.«record») (Ask.SetNull _) refl c.set_null.ensures)

pub returns-in-SetCode : goal.returns-in-SetCode
unfolding step
returns-in-SetCode c =
    rw (c.in-SetCode.is, c.keep-in-SetCode.ensures) (beside c.args.text.now (state_of c.args.heap.now c.args.roots.now c.args.«record») (Ask.SetCode _ _) refl c.set_code.ensures)

pub returns-in-Copy : goal.returns-in-Copy
unfolding step
returns-in-Copy c =
    rw (c.in-Copy.is, c.keep-in-Copy.ensures) (beside c.args.text.now (state_of c.args.heap.now c.args.roots.now c.args.«record») (Ask.Copy _ _) refl c.copy.ensures)

pub returns-in-Load : goal.returns-in-Load
unfolding step
returns-in-Load c =
    rw (c.in-Load.is, c.keep-in-Load.ensures) (beside c.args.text.now (state_of c.args.heap.now c.args.roots.now c.args.«record») (Ask.Load _ _ _) refl c.load.ensures)

pub returns-in-Store : goal.returns-in-Store
unfolding step
returns-in-Store c =
    rw (c.in-Store.is, c.keep-in-Store.ensures) (beside c.args.text.now (state_of c.args.heap.now c.args.roots.now c.args.«record») (Ask.Store _ _ _) refl c.store.ensures)

pub returns-in-RawRead : goal.returns-in-RawRead
unfolding step
returns-in-RawRead c =
    rw (c.in-RawRead.is, c.keep-in-RawRead.ensures) (beside c.args.text.now (state_of c.args.heap.now c.args.roots.now c.args.«record») (Ask.RawRead _ _) refl c.raw_read.ensures)

pub returns-in-RawWrite : goal.returns-in-RawWrite
unfolding step
returns-in-RawWrite c =
    rw (c.in-RawWrite.is, c.keep-in-RawWrite.ensures) (beside c.args.text.now (state_of c.args.heap.now c.args.roots.now c.args.«record») (Ask.RawWrite _ _ _) refl c.raw_write.ensures)

pub returns-in-Same : goal.returns-in-Same
unfolding step
returns-in-Same c =
    rw (c.in-Same.is, c.keep-in-Same.ensures) (beside c.args.text.now (state_of c.args.heap.now c.args.roots.now c.args.«record») (Ask.Same _ _) refl c.same.ensures)

pub returns-in-Inspect : goal.returns-in-Inspect
unfolding step
returns-in-Inspect c =
    rw (c.in-Inspect.is, c.keep-in-Inspect.ensures) (beside c.args.text.now (state_of c.args.heap.now c.args.roots.now c.args.«record») (Ask.Inspect _) refl c.inspect.ensures)

pub returns-in-Write : goal.returns-in-Write
unfolding step
returns-in-Write c =
    rw (c.in-Write.is, c.keep-in-Write.ensures) c.write.ensures

pub returns-in-Read : goal.returns-in-Read
unfolding step
returns-in-Read c =
    rw c.in-Read.is c.read.ensures
