mod ContentsLaws
mod HeldLaws
mod StopLaws
