mod Noted
mod RanOutTold
mod RunningOut
mod Spent
mod Behind
mod Ending
mod AllAnswered
