-- What the induction over a run takes of the layers below it.
use Rattle.std.specs.Prelude.{◌≡◌, ℕ, List, Ok}
use Rattle.basil_types.specs.Transaction.{TransactionValue}
use Rattle.basil_types.specs.Texts.{IsBytes}
use Rattle.client_core.specs.Clients.{ClientSelf, ClientValue, ClientDone}
use Rattle.frame_views.specs.Values.{MessageValue}
use Rattle.basil_types.specs.declared.transaction.parts.WritePart.{WritePart}
use Rattle.basil_types.specs.Setting.{Setting, IsSetting}
use Rattle.client_core.specs.Answers.{on_frame}
use Rattle.client_core.specs.Calls.{call_begin, call_read, call_write, call_prepare}
use Rattle.client_core.specs.Calls.{call_settle, call_recover, call_invoke}
use Rattle.frame_views.specs.Fitting.{FitsMessage, bounds_of}
use Rattle.frame_views.specs.Frames.{frame_in}
use Rattle.cluster_run.specs.Answering.{AllWords}

-- what is read of a frame fits the cluster
abbrev pub FramesFit : Type 0
FramesFit =
    (c : Setting) (frame : List ℕ) (m : MessageValue) → IsSetting c → IsBytes frame →
    frame_in (bounds_of c) frame ≡ Ok m → FitsMessage (bounds_of c) m

-- what a client signs has its sizes
pub record ClientsSignWords : Type 0 where
  pub at_frame : (me : ClientSelf) (c : ClientValue) (frame : List ℕ) (d : ClientDone) → on_frame me c frame ≡ Ok d →
      AllWords d.signed
  pub at_begin : (c : ClientValue) (time : ℕ) (d : ClientDone) → call_begin c time ≡ Ok d → AllWords d.signed
  pub at_read : (me : ClientSelf) (c : ClientValue) (slot : ℕ) (key : List ℕ) (d : ClientDone) → call_read me c slot key
      ≡ Ok d → AllWords d.signed
  pub at_write : (c : ClientValue) (slot : ℕ) (w : WritePart) (d : ClientDone) → call_write c slot w ≡ Ok d →
      AllWords d.signed
  pub at_prepare : (me : ClientSelf) (c : ClientValue) (slot : ℕ) (d : ClientDone) → call_prepare me c slot ≡ Ok d →
      AllWords d.signed
  pub at_settle : (me : ClientSelf) (c : ClientValue) (slot : ℕ) (d : ClientDone) → call_settle me c slot ≡ Ok d →
      AllWords d.signed
  pub at_recover : (me : ClientSelf) (c : ClientValue) (t : TransactionValue) (signature : List ℕ) (d : ClientDone) →
      call_recover me c t signature ≡ Ok d → AllWords d.signed
  pub at_invoke : (me : ClientSelf) (c : ClientValue) (slot : ℕ) (d : ClientDone) → call_invoke me c slot ≡ Ok d →
      AllWords d.signed
